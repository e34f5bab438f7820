-- What each event leaves at the machine is what looking back gives.
use Rattle.slave_core.proofs.Common.{Command, Deed, Did, InData, IsProper, IsRun, Move, Notes, Phase, OfSlave, Outcome, SlaveSettings, State, Terms, after, deed_of, did_on, entered, is_whole, keeps, kit_of, length-replicate, next_in, nonce, notes_of, phase_in, on_verdict, parameters, reply_in, rule_len, running, session_of, settles, slave-run, slave_conn, state_of, terms, upload_fault, upload_of, view_in, view_of, whole, whole_parameters}
use Rattle.std.proofs.Common.{◌≡◌, ℕ, ◌<◌, ◌≤◌, List, [], ◌∷◌, length, replicate, Bool, true, false, not, Option, Some, unwrap_or, if◌then◌else◌, refl, sym, ap, subst, ◌∙◌, arith, rules}
use Rattle.std.proofs.lemmas.Bool.{leb-true, eqb-true}
use Rattle.fsoe_base.specs.declared.command.Command.TheVariants as command
use Rattle.fsoe_base.specs.declared.command.State.TheVariants as state
use Rattle.fsoe_base.specs.declared.did.Cause.TheVariants as cause
use Rattle.fsoe_base.specs.Bytes.{all_zero}
use Rattle.param_load.specs.declared.contents.Expected.TheVariants as expected
use Rattle.param_load.specs.declared.entry.Move.TheVariants as move
use Rattle.end_model.specs.Verdict as model
use Rattle.end_model.proofs.SoundRuns.{loaded}
use Rattle.slave_core.specs.declared.phase.Phase.TheVariants as phase
use Rattle.slave_core.proofs.Sound.{OfSession, OfConnection, OfParameters, count_of, Sound, SoundAt}
use Rattle.slave_core.proofs.SameVerdict.{came, seen, Came, Same, Drops, Refuses, ByReset, Passes, same}
use Rattle.slave_core.proofs.Agrees.{Agrees, drop-agrees, resets-agree, fault-agrees, reset_frame-agrees, tick-agrees}
use Rattle.slave_core.proofs.Arrived.{Arrived, arrived}
use Rattle.slave_core.proofs.TakenHandshake.{connection-agrees, connection_settles, opening-fresh, opening-session, parameter-agrees, parameter_at, parameter_settles, session-agrees, session_settles}
use Rattle.slave_core.proofs.TakenData.{process-agrees, failsafe-agrees}

-- a phase that is whole is left, and one that isn't goes on
abbrev AgreesIn : State → SlaveSettings → List Deed → List ℕ → Command → Did → Phase → Type 0
AgreesIn p ss e bytes c d n =
    Agrees ss e (move.Deliver bytes) d
    (settles (view_in p ss e) (seen ss bytes c) (reply_in (kit_of ss e) n (seen ss bytes c)) (next_in (kit_of ss e) n (seen ss bytes c)))

whole-branch : (p : State) (ss : SlaveSettings) (e : List Deed) (bytes : List ℕ) (c : Command) (d : Did) (n m : Phase) (b : Bool) → b ≡ true → AgreesIn p ss e bytes c d n → AgreesIn p ss e bytes c d (if b then n else m)
whole-branch p ss e bytes c d n m b h k = rw h k

more-branch : (p : State) (ss : SlaveSettings) (e : List Deed) (bytes : List ℕ) (c : Command) (d : Did) (n m : Phase) (b : Bool) → not b ≡ true → AgreesIn p ss e bytes c d m → AgreesIn p ss e bytes c d (if b then n else m)
more-branch p ss e bytes c d n m true h k = absurd (cc h)
more-branch p ss e bytes c d n m false h k = k

-- what the machine does at a frame that passed its tests
abbrev Passed : State → SlaveSettings → List Deed → List ℕ → Command → Type 0
Passed p ss e bytes c =
    AgreesIn p ss e bytes c (on_verdict p (OfSlave ss) (model.judged_contents c (came ss bytes).load (model.contents (OfSlave ss) e c (came ss bytes))))
    (entered (kit_of ss e) (phase_in p ss (notes_of ss e)) (seen ss bytes c))

-- the deed of such a frame ends a run
abbrev RunOn : State → SlaveSettings → List Deed → List ℕ → Command → Type 0
RunOn p ss e bytes c =
    IsRun (OfSlave ss) (deed_of (OfSlave ss) e (move.Deliver bytes) (on_verdict p (OfSlave ss) (model.judged_contents c (came ss bytes).load (model.contents (OfSlave ss) e c (came ss bytes)))) ∷ e)

nothing-joined : (u : List ℕ) (m : ℕ) → u ≡ [] → 0 < m → m ≤ length u → ⊥
nothing-joined u m h some k = let q : length u ≡ 0 = ap length h in omega arith

same-conn : (o : Option ℕ) (k field : ℕ) → o ≡ Some k → model.is_slave_conn o field ≡ true → field ≡ k
same-conn o k field h t = eqb-true field k (sym (ap (λ (o : Option ℕ). model.is_slave_conn o field) h) ∙ t)

-- from Reset a session starts
reset-passed : (ss : SlaveSettings) (e : List Deed) (bytes : List ℕ) → state_of (OfSlave ss) e ≡ state.Reset → Sound ss e → SoundAt state.Reset ss e → Arrived ss bytes command.Session
    → Passed state.Reset ss e bytes command.Session
reset-passed ss e bytes at s h a =
    subst (λ (n : Notes). Agrees ss e (move.Deliver bytes) (on_verdict state.Reset (OfSlave ss) (model.judged_contents command.Session (came ss bytes).load (model.contents (OfSlave ss) e command.Session (came ss bytes))))
    (session_settles (upload_fault (upload_of ss (expected.Session ss.profile) n.session) ss.rule (came ss bytes).load) state.Reset ss e bytes n (nonce (OfSlave ss) e)))
    h.1
    (session-agrees (model.contents (OfSlave ss) e command.Session (came ss bytes)) state.Reset ss e bytes (nonce (OfSlave ss) e) at s (opening-fresh ss (count_of e) (notes_of ss e) (nonce (OfSlave ss) e) h) a)

-- in Session the id goes on, or the connection id begins
session-passed : (ss : SlaveSettings) (e : List Deed) (bytes : List ℕ) → state_of (OfSlave ss) e ≡ state.Session → Sound ss e → OfSession ss (count_of e) (notes_of ss e)
    → Came state.Session ss e bytes command.Session → Arrived ss bytes command.Session → Passed state.Session ss e bytes command.Session
session-passed ss e bytes at s h k a =
    more-branch state.Session ss e bytes command.Session _ _ _ (is_whole (upload_of ss (expected.Session ss.profile) (notes_of ss e).session)) k.is_allowed
    (session-agrees (model.contents (OfSlave ss) e command.Session (came ss bytes)) state.Session ss e bytes (unwrap_or (notes_of ss e).id 0) at s (opening-session ss (count_of e) (notes_of ss e) (nonce (OfSlave ss) e) h) a)

connects-passed : (ss : SlaveSettings) (e : List Deed) (bytes : List ℕ) → state_of (OfSlave ss) e ≡ state.Session → Sound ss e → OfSession ss (count_of e) (notes_of ss e)
    → Came state.Session ss e bytes command.Connection → Arrived ss bytes command.Connection → Passed state.Session ss e bytes command.Connection
connects-passed ss e bytes at s h k a =
    let conn : ℕ = (came ss bytes).conn in
    whole-branch state.Session ss e bytes command.Connection _ _ _ (is_whole (upload_of ss (expected.Session ss.profile) (notes_of ss e).session)) k.is_allowed
    (subst (λ (u : List ℕ). Agrees ss e (move.Deliver bytes) (on_verdict state.Session (OfSlave ss) (model.judged_contents command.Connection (came ss bytes).load (model.contents (OfSlave ss) e command.Connection (came ss bytes))))
    (connection_settles (upload_fault (upload_of ss (expected.Connection conn ss.address) u) ss.rule (came ss bytes).load) state.Session ss e bytes conn u))
    h.no_connection
    (connection-agrees (model.contents (OfSlave ss) e command.Connection (came ss bytes)) state.Session ss e bytes refl at s
    (search (rules, nothing-joined))
    a))

-- in Connection it goes on, or the parameters begin
connection-passed : (ss : SlaveSettings) (e : List Deed) (bytes : List ℕ) → state_of (OfSlave ss) e ≡ state.Connection → Sound ss e → OfConnection ss (notes_of ss e)
    → Came state.Connection ss e bytes command.Connection → Arrived ss bytes command.Connection → Passed state.Connection ss e bytes command.Connection
connection-passed ss e bytes at s h k a =
    let conn : ℕ = (came ss bytes).conn in
    let is : conn ≡ unwrap_or (slave_conn ss e) 0 = same-conn (slave_conn ss e) _ conn h.conn_is k.has_conn in
    more-branch state.Connection ss e bytes command.Connection _ _ _ (is_whole (upload_of ss (expected.Connection (unwrap_or (slave_conn ss e) 0) ss.address) (notes_of ss e).connection)) k.is_allowed
    (subst (λ (n : ℕ). Agrees ss e (move.Deliver bytes) (on_verdict state.Connection (OfSlave ss) (model.judged_contents command.Connection (came ss bytes).load (model.contents (OfSlave ss) e command.Connection (came ss bytes))))
    (connection_settles (upload_fault (upload_of ss (expected.Connection n ss.address) (notes_of ss e).connection) ss.rule (came ss bytes).load) state.Connection ss e bytes n (notes_of ss e).connection))
    is
    (connection-agrees (model.contents (OfSlave ss) e command.Connection (came ss bytes)) state.Connection ss e bytes refl at s
    (search (rules, keeps))
    a))

loads-passed : (ss : SlaveSettings) (e : List Deed) (bytes : List ℕ) → state_of (OfSlave ss) e ≡ state.Connection → Sound ss e → OfConnection ss (notes_of ss e)
    → Came state.Connection ss e bytes command.Parameter → Arrived ss bytes command.Parameter → RunOn state.Connection ss e bytes command.Parameter → Passed state.Connection ss e bytes command.Parameter
loads-passed ss e bytes at s h k a run =
    let all : 4 ≤ length (notes_of ss e).connection = leb-true 4 (length (notes_of ss e).connection) k.is_allowed in
    whole-branch state.Connection ss e bytes command.Parameter _ _ _ (is_whole (upload_of ss (expected.Connection (unwrap_or (slave_conn ss e) 0) ss.address) (notes_of ss e).connection)) k.is_allowed
    (subst (λ (u : List ℕ). Agrees ss e (move.Deliver bytes) (on_verdict state.Connection (OfSlave ss) (model.judged_contents command.Parameter (came ss bytes).load (model.contents (OfSlave ss) e command.Parameter (came ss bytes))))
    (parameter_settles (upload_fault (upload_of ss (expected.Parameter ss.most (rule_len ss.rule) ss.profile) u) ss.rule (came ss bytes).load) state.Connection ss e bytes u))
    h.no_parameter
    (parameter-agrees (model.contents (OfSlave ss) e command.Parameter (came ss bytes)) state.Connection ss e bytes at s
    (record { kept_is = h.kept_is; conn_is = h.conn_is; conn_said = h.conn_said (omega arith); address_said = h.address_said all }) a run))

-- in Parameter they go on
parameter-passed : (ss : SlaveSettings) (e : List Deed) (bytes : List ℕ) → state_of (OfSlave ss) e ≡ state.Parameter → Sound ss e → OfParameters ss (notes_of ss e)
    → Came state.Parameter ss e bytes command.Parameter → Arrived ss bytes command.Parameter → RunOn state.Parameter ss e bytes command.Parameter → Passed state.Parameter ss e bytes command.Parameter
parameter-passed ss e bytes h k l m n o = search (rules, more-branch, parameter-agrees)

terms-are : (ss : SlaveSettings) (e : List Deed) → IsRun (OfSlave ss) e → OfParameters ss (notes_of ss e) → whole ss.profile state.Parameter (parameters ss e) ≡ true
    → (running (kit_of ss e) (parameter_at ss e (notes_of ss e).parameter)).terms ≡ terms (OfSlave ss) e
terms-are ss e h k l = search (rules, slave-run)

-- state Data as it is entered, under these terms
abbrev data_at : SlaveSettings → List Deed → Terms → InData
data_at ss e t = record { session = session_of (notes_of ss e); terms = t; outputs = replicate ss.lengths.master 0 }

-- data begin once these are whole
runs-passed : (ss : SlaveSettings) (e : List Deed) (bytes : List ℕ) (d : Did) (c : Command) → IsRun (OfSlave ss) e → OfParameters ss (notes_of ss e) → is_whole (upload_of ss (expected.Parameter ss.most (rule_len ss.rule) ss.profile) (notes_of ss e).parameter) ≡ true
    → (whole ss.profile state.Parameter (parameters ss e) ≡ true → AgreesIn state.Parameter ss e bytes c d (phase.Data (data_at ss e (terms (OfSlave ss) e))))
    → AgreesIn state.Parameter ss e bytes c d (entered (kit_of ss e) (phase_in state.Parameter ss (notes_of ss e)) (seen ss bytes c))
runs-passed ss e bytes d c run h k agrees =
    let w : whole ss.profile state.Parameter (parameters ss e) ≡ true = whole_parameters ss e run ∙ k in
    whole-branch state.Parameter ss e bytes c _ _ _ (is_whole (upload_of ss (expected.Parameter ss.most (rule_len ss.rule) ss.profile) (notes_of ss e).parameter)) k
    (subst (λ (t : Terms). AgreesIn state.Parameter ss e bytes c d (phase.Data (data_at ss e t))) (sym (terms-are ss e run h w)) (agrees w))

-- a frame that passed its tests
passed-agrees : (p : State) (ss : SlaveSettings) (e : List Deed) (bytes : List ℕ) (c : Command) → state_of (OfSlave ss) e ≡ p → Sound ss e → SoundAt p ss e → Came p ss e bytes c → Arrived ss bytes c → IsRun (OfSlave ss) e → RunOn p ss e bytes c
    → Passed p ss e bytes c
passed-agrees state.Reset ss e bytes command.Session at s h k a run next = reset-passed ss e bytes at s h a
passed-agrees state.Session ss e bytes command.Session at s h k a run next = session-passed ss e bytes at s h k a
passed-agrees state.Session ss e bytes command.Connection at s h k a run next = connects-passed ss e bytes at s h k a
passed-agrees state.Connection ss e bytes command.Connection at s h k a run next = connection-passed ss e bytes at s h k a
passed-agrees state.Connection ss e bytes command.Parameter at s h k a run next = loads-passed ss e bytes at s h k a next
passed-agrees state.Parameter ss e bytes command.Parameter at s h k a run next = parameter-passed ss e bytes at s h k a next
passed-agrees state.Parameter ss e bytes command.ProcessData at s h k a run next = runs-passed ss e bytes _ command.ProcessData run h k.is_allowed (λ w. process-agrees state.Parameter ss e bytes s h a w run)
passed-agrees state.Parameter ss e bytes command.FailSafeData at s h k a run next = runs-passed ss e bytes _ command.FailSafeData run h k.is_allowed (λ w. failsafe-agrees (all_zero (came ss bytes).load) state.Parameter ss e bytes at s h a w run)
passed-agrees state.Data ss e bytes command.ProcessData at s h k a run next = process-agrees state.Data ss e bytes s h a (loaded ss e run at) run
passed-agrees state.Data ss e bytes command.FailSafeData at s h k a run next = failsafe-agrees (all_zero (came ss bytes).load) state.Data ss e bytes at s h a (loaded ss e run at) run
passed-agrees _ ss e bytes _ at s h k a run next = absurd (cc k.is_allowed)

judged-agrees : (p : State) (ss : SlaveSettings) (e : List Deed) (bytes : List ℕ) (v : model.Verdict) (w : Outcome) → Same p ss e bytes v w → state_of (OfSlave ss) e ≡ p → Sound ss e → SoundAt p ss e → IsRun (OfSlave ss) e
    → IsRun (OfSlave ss) (deed_of (OfSlave ss) e (move.Deliver bytes) (on_verdict p (OfSlave ss) v) ∷ e)
    → Agrees ss e (move.Deliver bytes) (on_verdict p (OfSlave ss) v) w
judged-agrees p ss e bytes v w (Drops because) at s h run next = drop-agrees p ss e bytes false because at s
judged-agrees p ss e bytes v w (Refuses x) at s h run next = fault-agrees p ss e bytes false x at s
judged-agrees p ss e bytes v w (ByReset x said) at s h run next = rw said (reset_frame-agrees p ss e bytes (came ss bytes).load s)
judged-agrees p ss e bytes v w (Passes c k) at s h run next = passed-agrees p ss e bytes c at s h k (arrived ss bytes c k.len k.named) run next

-- each event
pub agrees : (ss : SlaveSettings) (e : List Deed) (m : Move) → Sound ss e → IsRun (OfSlave ss) e → IsProper (OfSlave ss) m → Agrees ss e m (did_on (OfSlave ss) e m) (after (view_of ss e) m)
agrees ss e (move.Deliver bytes) s run proper =
    judged-agrees (state_of (OfSlave ss) e) ss e bytes _ _ (same (state_of (OfSlave ss) e) ss e bytes refl s.in_state (whole_parameters ss e run)) refl s s.in_state run (record { proper = tt; stepped = refl }, run)
agrees ss e move.Tick s run proper = tick-agrees (state_of (OfSlave ss) e) ss e refl s
agrees ss e move.Local s run proper = resets-agree (state_of (OfSlave ss) e) ss e move.Local false cause.Local refl s
agrees ss e (move.Put load) s run proper = record { view = λ r. refl; did = refl; sent = refl; sound = record { in_state = s.in_state; offer_len = proper; young = s.young } }
agrees ss e (move.Hold failsafe) s run proper = record { view = λ r. refl; did = refl; sent = refl; sound = record { in_state = s.in_state; offer_len = s.offer_len; young = s.young } }
agrees ss e (move.Nonce id) s run proper = record { view = λ r. refl; did = refl; sent = refl; sound = record { in_state = s.in_state; offer_len = s.offer_len; young = s.young } }

-- every run is sound
pub run-sound : (ss : SlaveSettings) (e : List Deed) → IsRun (OfSlave ss) e → Sound ss e
run-sound ss [] r = record { in_state = (refl, refl); offer_len = length-replicate ss.lengths.slave 0; young = λ k. absurd (k refl) }
run-sound ss (x ∷ e) r =
    let a : Agrees ss e x.what (did_on (OfSlave ss) e x.what) (after (view_of ss e) x.what) = agrees ss e x.what (run-sound ss e r.1) r.1 r.0.proper in
    subst (λ (x : Deed). Sound ss (x ∷ e)) (sym r.0.stepped) a.sound
