-- Events that leave offers and outputs as they are.
use Rattle.multi_master.proofs.Common.{Cause, Deed, Did, IsRun, Move, Setup, deed, out, outputs, shown_after, step, tells_due, zeros}
use Rattle.std.proofs.Common.{◌≡◌, ℕ, List, [], ◌∷◌, Option, None, is_some, false, ◌||◌, if◌then◌else◌, refl, sym, ◌∙◌, arith, rules}
use Rattle.fsoe_base.specs.declared.did.Took.{Took}
use Rattle.param_load.specs.declared.entry.Move.TheVariants as move
use Rattle.end_model.specs.Reactions.{Reaction, Rests, Ages, Expires, SendsAgain}
use Rattle.end_model.proofs.Shown.{looking_back, fail_safe}
use Rattle.end_model.proofs.SoundRuns.{reacts}
use Rattle.master_core.proofs.Calls.{quiet}

-- a tick that ends no session
abbrev IsTick : Move → Type 0
IsTick move.Tick = Unit {0}
IsTick _ = ⊥

tick-kept : (s : Setup) (e : List Deed) (m : Move) (d : Did) (f : List ℕ) → IsTick m → d.reset ≡ None → IsRun s e → Reaction s e m d f → outputs s (deed m d f ∷ e) ≡ outputs s e
tick-kept s e m d f k h r (Rests slave now) = refl
tick-kept s e m d f k h r (Ages counts below) = refl
tick-kept s e m d f k h r (Expires now old) = absurd (cc h)
tick-kept s e m d f k h r (SendsAgain master now old) = sym (fail_safe s e r (λ i. absurd (cc (now, i))))
tick-kept s e m d f k h r _ = absurd k

pub quiet_tick : (s : Setup) (e : List Deed) → IsRun s e → (step s e move.Tick).did.reset ≡ None → out s (step s e move.Tick ∷ e) ≡ out s e
quiet_tick s e r h =
    let x : Deed = step s e move.Tick in
    sym (looking_back s (x ∷ e) (record { proper = tt; stepped = refl }, r))
    ∙ tick-kept s e move.Tick x.did x.sent tt h r (reacts s e move.Tick r tt)
    ∙ looking_back s e r

-- a frame of which nothing is taken and which ends no session
quiet-parts : (s : Setup) (e : List Deed) (x : Deed) (n : ℕ) (took : Option Took) (reset : Option Cause) (before : List ℕ) → (is_some took || is_some reset) ≡ false
    → (if is_some reset then zeros s else shown_after s n (x ∷ e) took before) ≡ before
quiet-parts s e x n took reset before h = grind arith

pub quiet_frame : (s : Setup) (e : List Deed) (bytes : List ℕ) → tells_due (step s e (move.Deliver bytes)).did ≡ false
    → out s (step s e (move.Deliver bytes) ∷ e) ≡ out s e
quiet_frame s e bytes h = search (rules, quiet-parts)

-- it sends nothing
pub quiet_deed : (s : Setup) (e : List Deed) (bytes : List ℕ) → IsRun s e → tells_due (step s e (move.Deliver bytes)).did ≡ false
    → step s e (move.Deliver bytes) ≡ deed (move.Deliver bytes) (record (step s e (move.Deliver bytes)).did { sent = false }) []
quiet_deed s e bytes r h =
    let x : Deed = step s e (move.Deliver bytes) in
    sym (quiet s e (move.Deliver bytes) x.did x.sent tt h (reacts s e (move.Deliver bytes) r tt))
