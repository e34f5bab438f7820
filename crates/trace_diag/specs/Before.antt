-- What is kept of the frames before one. The rows of the table need it: whose turn it is, in which phase, where the
-- piece stands in its payload, the connection id, the numbers among the parameters, the piece that an answer repeats,
-- and the chain. And the settings are told by it.
use Rattle.std.specs.Prelude.{ℕ, List, [], ◌∷◌, length, take, drop, Option, if◌then◌else◌}
use Rattle.fsoe_base.specs.declared.command.Command.TheVariants as command
use Rattle.fsoe_base.specs.declared.command.End.{End}
use Rattle.fsoe_base.specs.declared.command.End.TheVariants as side
use Rattle.fsoe_base.specs.declared.command.State.{State}
use Rattle.fsoe_base.specs.declared.command.State.TheVariants as state
use Rattle.fsoe_base.specs.declared.lengths.Lengths.{Lengths}
use Rattle.fsoe_frame.specs.Parts.{frame_of}
use Rattle.seq_chain.specs.declared.chain.Chain.{Chain}
use Rattle.seq_chain.specs.Chain.{fresh, after_sent, after_taken, turned}
use Rattle.param_load.specs.declared.profile.Profile.TheVariants as profile
use Rattle.end_model.specs.Payloads.{first_conn, whole}
use Rattle.end_model.specs.Phases.{phase_of_frame, has_command}
use Rattle.trace_diag.specs.Settings.{connection_from, parameters_from}
use Rattle.trace_diag.specs.Trace.{Noted, frames_from, turn, trace_piece_len, payload_from}

-- the phase after a phase
abbrev pub next_phase : State → State
next_phase state.Reset = state.Session
next_phase state.Session = state.Connection
next_phase state.Connection = state.Parameter
next_phase state.Parameter = state.Data
next_phase state.Data = state.Data

-- the phase of the master's frame after an answer in this phase, whose payload is as far as this: until the payload is
-- whole a phase is followed by itself. A Reset frame has no payload
abbrev pub phase_following : State → List ℕ → State
phase_following state.Reset u = state.Session
phase_following now u = if whole profile.One now u then next_phase now else now

-- the phase of the next frame, after a frame of this phase: an answer is of the phase of the master's frame
abbrev pub phase_from : Lengths → List Noted → End → State → State
phase_from lengths t side.Slave now = now
phase_from lengths t side.Master now = phase_following now (payload_from lengths side.Master now t)

-- the phase that follows these frames, Reset at the beginning
abbrev pub phase_due : Lengths → List Noted → State
phase_due lengths [] = state.Reset
phase_due lengths (x ∷ t) = phase_from lengths (x ∷ t) (turn (x ∷ t)) (phase_of_frame x.frame)

-- where the piece of the next frame stands in the payload of its phase: a master's after the pieces that it sent, and a
-- slave's where the piece stands that it answers. Reset and Data have no payload
abbrev pub piece_place : Lengths → List Noted → State → End → ℕ
piece_place lengths t state.Reset which = 0
piece_place lengths t state.Data which = 0
piece_place lengths t phase side.Master = length (payload_from lengths side.Master phase t)
piece_place lengths t phase side.Slave = length (payload_from lengths side.Master phase (drop 1 t))

-- the safe data of the newest of these frames, where a frame has l bytes of them
abbrev pub newest_load : ℕ → List (List ℕ) → List ℕ
newest_load l [] = []
newest_load l (f ∷ frames) = (frame_of l f).load

-- the piece that the master's last frame carried
abbrev pub newest_piece : Lengths → List Noted → List ℕ
newest_piece lengths t = take (trace_piece_len lengths) (newest_load lengths.master (frames_from side.Master t))

-- the piece that the next frame repeats: a slave repeats the master's in Connection and Parameter, and no other frame
-- repeats one
abbrev pub piece_asked : Lengths → List Noted → State → End → List ℕ
piece_asked lengths t state.Connection side.Slave = newest_piece lengths t
piece_asked lengths t state.Parameter side.Slave = newest_piece lengths t
piece_asked lengths t _ _ = []

-- the chain of the session that these frames leave, as the master has it: its own frames were sent, and the slave's
-- were taken
abbrev pub chain_with : Lengths → Chain → End → List ℕ → Chain
chain_with lengths chain side.Master f = after_sent chain (frame_of lengths.master f)
chain_with lengths chain side.Slave f = after_taken chain (frame_of lengths.slave f)

abbrev pub chain_of : Lengths → List Noted → Chain
chain_of lengths [] = fresh
chain_of lengths (x ∷ t) = if has_command command.Reset x.frame then fresh else chain_with lengths (chain_of lengths t) x.from x.frame

-- the chain as an end has it
abbrev pub chain_at : End → Chain → Chain
chain_at side.Master chain = chain
chain_at side.Slave chain = turned chain

pub record Before : Type 0 where
  pub turn : End
  pub due : State
  pub place : ℕ
  -- the connection id of the first Connection frame, if there was one
  pub conn : Option ℕ
  -- the first four bytes of the payload of Connection
  pub connection : List ℕ
  -- the first six bytes of the parameters
  pub parameters : List ℕ
  pub piece : List ℕ
  pub chain : Chain

abbrev pub before : Lengths → List Noted → Before
before lengths t = record {
  turn = turn t;
  due = phase_due lengths t;
  place = piece_place lengths t (phase_due lengths t) (turn t);
  conn = first_conn lengths.master (frames_from side.Master t);
  connection = take 4 (connection_from lengths t);
  parameters = take 6 (parameters_from lengths t);
  piece = piece_asked lengths t (phase_due lengths t) (turn t);
  chain = chain_of lengths t;
}
