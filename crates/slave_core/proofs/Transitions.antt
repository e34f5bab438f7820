-- A state goes on in place as the machine's table says.
use Rattle.slave_core.proofs.Common.{Chain, Code, KitView, OfSlave, Phase, SessionFrameView, SlaveView, id_len, is_whole, limit_of, on_session, refuses, rule_len, slave_allows, taken}
use Rattle.end_model.specs.Setup.{receives}
use Rattle.fsoe_base.specs.Data.{is_data}
use Rattle.fsoe_base.specs.declared.command.State.TheVariants as state
use Rattle.seq_chain.specs.Session.{HasPassed}
use Rattle.slave_core.specs.Phase.{GoesOnBy, IsUnder, PassedIn, allows, chain_of, is_reset}
use Rattle.slave_core.specs.declared.phase.Phase.TheVariants as phase
use Rattle.seq_chain.specs.declared.link.Link.{Link}
use Rattle.fsoe_base.specs.declared.command.Command.{Command}
use Rattle.std.proofs.lemmas.Bool.{lt-leb}
use Rattle.std.proofs.Common.{◌≡◌, ℕ, ◌+◌, List, Bool, true, false, if◌then◌else◌, IsTrue, None, Result, Ok, Err, refl, sym, ap, subst, ◌∙◌, arith, rules}
use Rattle.failsafe_io.specs.Timer.{started}
use Rattle.slave_core.specs.Taken.{Advances, entered, next_state, reply}
use Rattle.slave_core.specs.States.{connecting, loading, no_session, running}

-- the state in which the frame is taken
pub advances_by : (kit : KitView) (n m : Phase) (f : SessionFrameView) (r : Result (Unit {0}) Code) (new : Phase) (before sent : List ℕ) → Advances kit n f r new before sent → n ≡ m → Advances kit m f r new before sent
advances_by kit n m f r new before sent h i = rw (← i) h

either : (P : Phase → Type 0) (b : Bool) (m n : Phase) → (b ≡ true → P m) → (b ≡ false → P n) → P (if b then m else n)
either P true m n h k = h refl
either P false m n h k = k refl

after-parameters : (b : Bool) (c : Command) → b ≡ true → IsTrue (slave_allows state.Parameter b c) → IsTrue (is_data c)
after-parameters b c h k = grind arith

of-data : (c : Command) → IsTrue (slave_allows state.Data true c) → IsTrue (is_data c)
of-data c k = grind arith

next-goes_on : (kit : KitView) (p : Phase) (f : SessionFrameView) → IsTrue (allows p f.command) → GoesOnBy (entered kit p f) f.command
next-goes_on kit (phase.Reset s) f k = search rules
next-goes_on kit (phase.Session s) f k = either (λ (p : Phase). GoesOnBy p f.command) (is_whole s.upload) (phase.Connection (connecting kit s f.frame.conn)) (phase.Session s) (λ w. refl) (λ w. w)
next-goes_on kit (phase.Connection s) f k = either (λ (p : Phase). GoesOnBy p f.command) (is_whole s.upload) (phase.Parameter (loading kit s)) (phase.Connection s) (λ w. lt-leb (id_len kit.settings.profile + 4 + rule_len kit.settings.rule) 0 (omega arith)) (λ w. w)
next-goes_on kit (phase.Parameter s) f k = either (λ (p : Phase). GoesOnBy p f.command) (is_whole s.upload) (phase.Data (running kit s)) (phase.Parameter s) (λ w. after-parameters (is_whole s.upload) f.command w k) (λ w. w)
next-goes_on kit (phase.Data s) f k = of-data f.command k

-- the frame is the next one of the phase that it enters
pub goes_on_by : (kit : KitView) (p n : Phase) (f : SessionFrameView) → n ≡ entered kit p f → IsTrue (allows p f.command) → GoesOnBy n f.command
goes_on_by kit p n f h k = rw h (next-goes_on kit p f k)

same-chain : (kit : KitView) (p : Phase) (f : SessionFrameView) → chain_of (entered kit p f) ≡ chain_of p
same-chain kit (phase.Reset s) f = refl
same-chain kit (phase.Session s) f = either (λ (p : Phase). chain_of p ≡ s.session.chain) (is_whole s.upload) (phase.Connection (connecting kit s f.frame.conn)) (phase.Session s) (λ w. refl) (λ w. refl)
same-chain kit (phase.Connection s) f = either (λ (p : Phase). chain_of p ≡ s.session.chain) (is_whole s.upload) (phase.Parameter (loading kit s)) (phase.Connection s) (λ w. refl) (λ w. refl)
same-chain kit (phase.Parameter s) f = either (λ (p : Phase). chain_of p ≡ s.session.chain) (is_whole s.upload) (phase.Data (running kit s)) (phase.Parameter s) (λ w. refl) (λ w. refl)
same-chain kit (phase.Data s) f = refl

-- and has passed the tests in it
pub passed_by : (kit : KitView) (p n : Phase) (f : SessionFrameView) (link : Link) → n ≡ entered kit p f → IsUnder kit.settings n → PassedIn kit.settings p f link → PassedIn kit.settings n f link
passed_by kit p n f link h u k = record { under = u; passed = subst (λ (c : Chain). HasPassed (receives (OfSlave kit.settings)) c f link) (sym (ap chain_of h ∙ same-chain kit p f)) k.passed }

pub taken_by : (v w : SlaveView) (f : SessionFrameView) (answer : List ℕ) → w.kit ≡ v.kit → w.timer ≡ started (limit_of v.kit.settings w.state)
    → Ok w.state ≡ next_state v.kit v.state f → answer ≡ reply v.kit v.state f
    → taken w f answer ≡ on_session v f None
taken_by v w f answer h k l m = grind arith

-- a frame is refused by a slave of which the session alone isn't as it was, as by the slave before: in state Reset there is none
pub refused_by : (v w : SlaveView) (f : SessionFrameView) (x : Code) → w.kit ≡ v.kit → is_reset w.state ≡ is_reset v.state → (IsTrue (is_reset v.state) → w ≡ v)
    → Err (no_session, x) ≡ next_state v.kit v.state f
    → refuses w true x ≡ on_session v f None
refused_by v w f x h i j l = grind arith
