-- What each event leaves at the machine is what looking back gives.
use Rattle.master_core.proofs.Common.{Accepted, Command, Deed, IsProper, IsRun, MasterSettings, Move, OfMaster, State, after, answered_by, did_on, kit_of, length-replicate, next_phase, notes_of, on_verdict, phase_in, settles, state_of, view_in, view_of}
use Rattle.std.proofs.Common.{◌≡◌, ℕ, ◌<◌, List, [], ◌∷◌, false, refl, sym, subst, arith}
use Rattle.fsoe_base.specs.Bytes.{all_zero}
use Rattle.fsoe_base.specs.declared.command.Command.TheVariants as command
use Rattle.fsoe_base.specs.declared.command.State.TheVariants as state
use Rattle.fsoe_base.specs.declared.did.Cause.TheVariants as cause
use Rattle.param_load.specs.declared.entry.Move.TheVariants as move
use Rattle.end_model.specs.Verdict as model
use Rattle.master_core.proofs.Sound.{Sound, SoundAt}
use Rattle.master_core.proofs.SameVerdict.{came, seen, Came, Same, Drops, Refuses, ByReset, Passes, same}
use Rattle.master_core.proofs.Agrees.{Agrees, drop-agrees, refuse-agrees, resets-agree, tick-agrees}
use Rattle.master_core.proofs.Taking.{Arrived, arrived}
use Rattle.master_core.proofs.Began.{reset_frame-agrees}
use Rattle.master_core.proofs.TakenAnswers.{session-passed, connection-passed, parameter-passed}
use Rattle.master_core.proofs.TakenData.{process-passed, failsafe-passed}

-- a frame that passed its tests
passed-agrees : (p : State) (ms : MasterSettings) (e : List Deed) (bytes : List ℕ) (c : Command) → SoundAt p ms e → Came p ms bytes c → Arrived ms bytes → Sound ms e
    → Agrees ms e (move.Deliver bytes) (on_verdict p (OfMaster ms) (model.judged_contents c (came ms bytes).load (model.contents (OfMaster ms) e c (came ms bytes))))
    (answered_by (settles (view_in p ms e) (seen ms bytes c) (next_phase (kit_of ms e) (phase_in p ms (notes_of ms e)) (seen ms bytes c))))
passed-agrees state.Session ms e bytes command.Session h k a s = session-passed ms e bytes h a s
passed-agrees state.Connection ms e bytes command.Connection h k a s = connection-passed ms e bytes h a s
passed-agrees state.Parameter ms e bytes command.Parameter h k a s = parameter-passed ms e bytes h a s
passed-agrees state.Data ms e bytes command.ProcessData h k a s = process-passed ms e bytes a s
passed-agrees state.Data ms e bytes command.FailSafeData h k a s = failsafe-passed ms e bytes (all_zero (came ms bytes).load) a s
passed-agrees p ms e bytes command.Reset h k a s = absurd (k.is_session refl)
passed-agrees _ ms e bytes _ h k a s = absurd (cc k.is_allowed)

judged-agrees : (p : State) (ms : MasterSettings) (e : List Deed) (bytes : List ℕ) (v : model.Verdict) (w : Accepted) → Same p ms e bytes v w → state_of (OfMaster ms) e ≡ p → SoundAt p ms e → Sound ms e
    → Agrees ms e (move.Deliver bytes) (on_verdict p (OfMaster ms) v) (answered_by w)
judged-agrees p ms e bytes v w (Drops because) at h s = drop-agrees p ms e bytes because at s
judged-agrees p ms e bytes v w (Refuses x) at h s = refuse-agrees p ms e bytes x at s
judged-agrees p ms e bytes v w (ByReset len x said) at h s = reset_frame-agrees p ms e bytes x said at h (arrived ms bytes len) s
judged-agrees p ms e bytes v w (Passes c k) at h s = passed-agrees p ms e bytes c h k (arrived ms bytes k.len) s

-- each event
pub agrees : (ms : MasterSettings) (e : List Deed) (m : Move) → Sound ms e → IsProper (OfMaster ms) m → Agrees ms e m (did_on (OfMaster ms) e m) (after (view_of ms e) m)
agrees ms e (move.Deliver bytes) s proper =
    judged-agrees (state_of (OfMaster ms) e) ms e bytes _ _ (same (state_of (OfMaster ms) e) ms e bytes refl s.in_state) refl s.in_state s
agrees ms e move.Tick s proper = tick-agrees (state_of (OfMaster ms) e) ms e refl s
agrees ms e move.Local s proper = resets-agree (state_of (OfMaster ms) e) ms e move.Local false cause.Local refl s
agrees ms e (move.Put load) s proper = record { view = λ r. refl; did = refl; sent = refl; sound = record { in_state = s.in_state; offer_len = proper; young = s.young } }
agrees ms e (move.Hold failsafe) s proper = record { view = λ r. refl; did = refl; sent = refl; sound = record { in_state = s.in_state; offer_len = s.offer_len; young = s.young } }
agrees ms e (move.Nonce id) s proper = record { view = λ r. refl; did = refl; sent = refl; sound = record { in_state = s.in_state; offer_len = s.offer_len; young = s.young } }

-- every run is sound
pub run-sound : (ms : MasterSettings) (e : List Deed) → IsRun (OfMaster ms) e → Sound ms e
run-sound ms [] r = record { in_state = refl; offer_len = length-replicate ms.lengths.master 0; young = let some : 0 < ms.watchdog = ms.some_watchdog in omega arith }
run-sound ms (x ∷ e) r =
    let a : Agrees ms e x.what (did_on (OfMaster ms) e x.what) (after (view_of ms e) x.what) = agrees ms e x.what (run-sound ms e r.1) r.0.proper in
    subst (λ (x : Deed). Sound ms (x ∷ e)) (sym r.0.stepped) a.sound
