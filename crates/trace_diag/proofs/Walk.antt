-- The walk along a trace: after each of its frames the world over the schedule stands at a stage of which the trace
-- tells.
use Rattle.trace_diag.proofs.Common.{Accepts, Asked, Down, End, Entry, Event, IsDown, MasterSettings, Noted, OfMaster, Partner, Stage, both, frame_of, frames_from, frames_of, has_command, length_of, next_entry, partner, read_schedule, reset_frame, sent_in, turn, world}
use Rattle.std.proofs.Common.{◌≡◌, List, [], ◌∷◌, length, false, true, refl, sym, ap, ◌∙◌, rules}
use Rattle.fsoe_base.specs.declared.command.Command.TheVariants as command
use Rattle.fsoe_base.specs.declared.command.End.TheVariants as end_name
use Rattle.param_load.specs.declared.entry.Move.TheVariants as move
use Rattle.trace_diag.proofs.Along.{master_brought, same_head, slave_brought, Brought}
use Rattle.trace_diag.proofs.LockStep.{first_runs, next_runs, steps, Runs, Steps}
use Rattle.trace_diag.proofs.NextFrames.{NextFrame}
use Rattle.trace_diag.proofs.Nonces.{nonces_left, LeaveNonces}
use Rattle.trace_diag.proofs.Running.{frames_sent, IsOn, Reaches}
use Rattle.trace_diag.proofs.SentRows.{IsPlain}
use Rattle.trace_diag.proofs.Tells.{not_reset, told_asked, Tells}

-- the world over the schedule of a trace
abbrev pub world_of : (ms : MasterSettings) → Partner ms → List Noted → List Entry
world_of ms r t = world ms (partner ms r) (read_schedule ms.lengths t)

-- that world stands at the end of the trace, which tells of it
pub record At (ms : MasterSettings) (r : Partner ms) (t : List Noted) : Type 0 where
  pub runs : Runs ms r t
  pub nonces : LeaveNonces (world_of ms r t)
  pub tells : Tells ms t (turn t) (both ms r (world_of ms r t))

-- the frame that the world sends next, where the next one of the trace is this, and that it stands there too if that is
-- the frame
pub record More (ms : MasterSettings) (r : Partner ms) (x : Noted) (t : List Noted) : Type 0 where
  pub steps : Steps ms r x t
  pub next : NextFrame ms r t steps.answers.reaches.entry.sent (turn t)
  pub sent : sent_in (world_of ms r (x ∷ t)) ≡ record { from = turn t; frame = steps.answers.reaches.entry.sent } ∷ sent_in (world_of ms r t)
  pub at : x ≡ record { from = turn t; frame = steps.answers.reaches.entry.sent } → At ms r (x ∷ t)

-- the first frame
abbrev pub first_reset : MasterSettings → Noted
first_reset ms = record { from = end_name.Master; frame = reset_frame 0 ms.lengths.master }

pub at_first : (ms : MasterSettings) (r : Partner ms) → At ms r (first_reset ms ∷ [])
at_first ms r = record {
  runs = runs.0;
  nonces = nonces_left (next_entry (OfMaster ms) [] move.Tick) [] (λ n. refl) (λ which. tt);
  tells = by-stage runs.0.on.stage;
}
  where
    runs : Runs ms r (first_reset ms ∷ []) × (sent_in (world_of ms r (first_reset ms ∷ [])) ≡ first_reset ms ∷ [])
    runs = first_runs ms r (first_reset ms)

    w : List Entry
    w = world_of ms r (first_reset ms ∷ [])

    only-reset : frames_of end_name.Master w ≡ reset_frame 0 ms.lengths.master ∷ []
    only-reset = sym (frames_sent end_name.Master w) ∙ ap (frames_from end_name.Master) runs.1

    no-session : (h : IsDown ms r (both ms r w)) → ⊥
    no-session h =
        let is : reset_frame 0 ms.lengths.master ≡ h.frame = same_head (reset_frame 0 ms.lengths.master) h.frame [] h.last.older (sym only-reset ∙ h.last.is) in
        let none : true ≡ false = ap (has_command command.Reset) is ∙ not_reset h.command h.frame h.way.tail h.way.head h.in_session in
        cc

    by-stage : Stage ms r (both ms r w) end_name.Slave → Tells ms (first_reset ms ∷ []) end_name.Slave (both ms r w)
    by-stage (Asked h) = told_asked ms (both ms r w) (reset_frame 0 ms.lengths.master) _ refl h
    by-stage (Down h) = absurd (no-session h)

brought : (ms : MasterSettings) (r : Partner ms) (y : Noted) (t : List Noted) (events : List Event) (w : List Entry) (at : End) (s : Reaches ms r events w at) → IsPlain ms → turn (y ∷ t) ≡ at
    → IsOn ms r w at → LeaveNonces w → Tells ms (y ∷ t) at (both ms r w) → Brought ms r (y ∷ t) at s.entry.sent (s.entry ∷ s.set)
brought ms r y t events w end_name.Master s plain turned on nonces told = master_brought ms r y t events w s plain turned on.stage nonces told
brought ms r y t events w end_name.Slave s plain turned on nonces told = slave_brought ms r y t events w s plain turned nonces told

pub more : (ms : MasterSettings) (r : Partner ms) (x y : Noted) (t : List Noted) → Accepts ms r → IsPlain ms → length (frame_of (length_of ms.lengths (turn (y ∷ t))) x.frame).load ≡ length_of ms.lengths (turn (y ∷ t))
    → At ms r (y ∷ t) → More ms r x (y ∷ t)
more ms r x y t accepts plain fits at =
    let s : Steps ms r x (y ∷ t) = steps ms r x y t accepts fits at.runs in
    let reaches = s.answers.reaches in
    let b : Brought ms r (y ∷ t) (turn (y ∷ t)) reaches.entry.sent (reaches.entry ∷ reaches.set) = brought ms r y t _ (world_of ms r (y ∷ t)) (turn (y ∷ t)) reaches plain refl at.runs.on at.nonces at.tells in
    record {
      steps = s;
      next = b.next;
      sent = ap sent_in s.goes ∙ reaches.sent;
      at = λ is. (search (rules, next_runs, both));
    }
