-- The schedule that is read off a trace: the events after which two ends send such frames in lock step. It begins with
-- a tick of the master; then comes, for each further frame, one delivery of the frame before it. An end that answers
-- with a data frame in the trace is set to that frame before: held for FailSafeData, and else with the frame's data
-- put. It is this profile's own.
use Rattle.std.specs.Prelude.{ℕ, true, false, List, [], ◌∷◌, ◌++◌, replicate, Option, Some}
use Rattle.fsoe_base.specs.declared.command.Command.{Command}
use Rattle.fsoe_base.specs.declared.command.Command.TheVariants as command
use Rattle.fsoe_base.specs.declared.command.End.{End}
use Rattle.fsoe_base.specs.declared.command.End.TheVariants as side
use Rattle.fsoe_base.specs.declared.lengths.Lengths.{Lengths}
use Rattle.fsoe_base.specs.LengthsOf.{length_of}
use Rattle.fsoe_frame.specs.Parts.{frame_of}
use Rattle.schedule_file.specs.declared.event.Event.{Event}
use Rattle.schedule_file.specs.declared.event.Event.TheVariants as event
use Rattle.end_model.specs.Phases.{command_in}
use Rattle.trace_diag.specs.Trace.{Noted, turn}

-- what makes an end with l safe data bytes answer with this data frame: a hold, and a put of its data
abbrev pub set_for : End → ℕ → Option Command → List ℕ → List Event
set_for at l (Some command.FailSafeData) load = event.Hold at true ∷ event.Put at (replicate l 0) ∷ []
set_for at l (Some command.ProcessData) load = event.Hold at false ∷ event.Put at load ∷ []
set_for at l _ load = []

-- the events before an end sends this frame as its answer to the peer's last one
abbrev pub answer_events : End → ℕ → List ℕ → List Event
answer_events at l f = set_for at l (command_in f) (frame_of l f).load ++ event.Deliver at 1 ∷ []

-- the events before the next frame of a trace is sent, where t are the frames before it
abbrev pub events_before : Lengths → List Noted → List ℕ → List Event
events_before lengths [] f = event.Tick side.Master ∷ []
events_before lengths (x ∷ t) f = answer_events (turn (x ∷ t)) (length_of lengths (turn (x ∷ t))) f

-- the schedule of a trace, whose events come in order
abbrev pub read_schedule : Lengths → List Noted → List Event
read_schedule lengths [] = []
read_schedule lengths (x ∷ t) = read_schedule lengths t ++ events_before lengths t x.frame
