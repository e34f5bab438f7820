-- What is kept of a trace after one more frame that is as it must be, by what was kept before it.
use Rattle.std.specs.Prelude.{ℕ, ◌+◌, nat_le, List, [], ◌++◌, take, Bool, false, ◌&&◌, Option, Some, if◌then◌else◌}
use Rattle.std.specs.Option.{option_or}
use Rattle.fsoe_base.specs.declared.command.End.{End}
use Rattle.fsoe_base.specs.declared.command.End.TheVariants as side
use Rattle.fsoe_base.specs.declared.command.State.{State}
use Rattle.fsoe_base.specs.declared.command.State.TheVariants as state
use Rattle.fsoe_frame.specs.Parts.{Frame}
use Rattle.seq_chain.specs.declared.chain.Chain.{Chain}
use Rattle.seq_chain.specs.Chain.{fresh, after_sent, after_taken}
use Rattle.param_load.specs.Payload.{number_at}
use Rattle.trace_diag.specs.Before.{next_phase, Before}
use Rattle.trace_diag.specs.Table.{crcs_due}

-- whether a payload of which so many bytes came is whole; its first six bytes are these
abbrev pub has_come : State → ℕ → List ℕ → Bool
has_come state.Session n u = nat_le 2 n
has_come state.Connection n u = nat_le 4 n
has_come state.Parameter n u = nat_le 6 n && nat_le (6 + number_at 4 u) n
has_come _ n u = false

-- the phase after an answer in this one, and the bytes that came of its payload
abbrev pub phase_when : State → ℕ → List ℕ → State
phase_when state.Reset n u = state.Session
phase_when now n u = if has_come now n u then next_phase now else now

abbrev pub place_when : State → ℕ → List ℕ → ℕ
place_when state.Reset n u = 0
place_when state.Data n u = 0
place_when now n u = if has_come now n u then 0 else n

-- the connection id of the first Connection frame
abbrev pub conn_with : State → Option ℕ → ℕ → Option ℕ
conn_with state.Connection first conn = option_or first (Some conn)
conn_with _ first conn = first

-- the first bytes of the payload of a phase
abbrev pub connection_with : State → List ℕ → List ℕ → List ℕ
connection_with state.Connection u part = take 4 (u ++ part)
connection_with _ u part = u

abbrev pub parameters_with : State → List ℕ → List ℕ → List ℕ
parameters_with state.Parameter u part = take 6 (u ++ part)
parameters_with _ u part = u

-- the piece that the answer repeats
abbrev pub piece_of : State → List ℕ → List ℕ
piece_of state.Connection part = part
piece_of state.Parameter part = part
piece_of _ part = []

-- the chain with a frame of this end: a Reset frame ends the session
abbrev pub chain_after : State → Chain → End → Frame → Chain
chain_after state.Reset chain which f = fresh
chain_after _ chain side.Master f = after_sent chain f
chain_after _ chain side.Slave f = after_taken chain f

-- a frame with the CRCs that it must have
abbrev pub due_made : Before → End → Frame → Frame
due_made k which f = record f { crcs = crcs_due k.due k.chain which f }

-- after a frame of the end whose turn it is, which carries c bytes of a payload
abbrev pub kept_from : ℕ → Before → End → Frame → Before
kept_from c k side.Master f = record {
  turn = side.Slave;
  due = k.due;
  place = k.place;
  conn = conn_with k.due k.conn f.conn;
  connection = connection_with k.due k.connection (take c f.load);
  parameters = parameters_with k.due k.parameters (take c f.load);
  piece = piece_of k.due (take c f.load);
  chain = chain_after k.due k.chain side.Master f;
}
kept_from c k side.Slave f = record {
  turn = side.Master;
  due = phase_when k.due (k.place + c) k.parameters;
  place = place_when k.due (k.place + c) k.parameters;
  conn = k.conn;
  connection = k.connection;
  parameters = k.parameters;
  piece = [];
  chain = chain_after k.due k.chain side.Slave f;
}
