-- A recorded trace: the frames of both ends in the order in which they were seen, and from which end each came. Lists
-- of them are newest first. That a trace is recorded so is this profile's own.
use Rattle.std.specs.Prelude.{ℕ, min, List, [], ◌∷◌, ◌++◌, take, if◌then◌else◌}
use Rattle.fsoe_base.specs.declared.command.End.{End}
use Rattle.fsoe_base.specs.declared.command.End.TheVariants as side
use Rattle.fsoe_base.specs.declared.command.State.{State}
use Rattle.fsoe_base.specs.declared.lengths.Lengths.{Lengths}
use Rattle.fsoe_base.specs.LengthsOf.{length_of}
use Rattle.fsoe_frame.specs.Parts.{frame_of}
use Rattle.end_model.specs.Phases.{phase_of_frame, same_phase}
use Rattle.exchange_model.specs.Ends.{same_end, peer}
pub use Rattle.trace_diag.specs.declared.noted.Noted.{Noted}

-- the frames of one end
abbrev pub frames_from : End → List Noted → List (List ℕ)
frames_from which [] = []
frames_from which (x ∷ t) = if same_end which x.from then x.frame ∷ frames_from which t else frames_from which t

-- the end whose frame comes next: the master's first, and then each end's in turn
abbrev pub turn : List Noted → End
turn [] = side.Master
turn (x ∷ t) = peer (turn t)

-- the bytes of a payload that one frame carries: the smaller of both lengths
abbrev pub trace_piece_len : Lengths → ℕ
trace_piece_len lengths = min lengths.master lengths.slave

-- the first c data bytes of each of these frames that is of a phase, in order, where a frame has l data bytes
abbrev pub carried : State → ℕ → ℕ → List (List ℕ) → List ℕ
carried phase c l [] = []
carried phase c l (f ∷ frames) =
    if same_phase phase (phase_of_frame f) then carried phase c l frames ++ take c (frame_of l f).load else carried phase c l frames

-- the payload bytes of a phase that an end's frames carry
abbrev pub payload_from : Lengths → End → State → List Noted → List ℕ
payload_from lengths which phase t = carried phase (trace_piece_len lengths) (length_of lengths which) (frames_from which t)
