-- Which field of a frame isn't as it must be, where the frame follows a trace that conforms: the first row of the
-- table that applies.
--   Turn       the frame isn't from the end whose turn it is
--   Length     it hasn't the length of that end's frames
--   Command    its command isn't one of the phase that follows
--   Conn       the connection id isn't 0 in Reset and Session, is 0 in the first Connection frame, or is another than that frame's later
--   Data       the lowest place where a data byte isn't as it must be: 0 in Reset, past a payload, past a piece and in FailSafeData; the bytes of
--              the connection id; 2 and 0 as the length of the communication parameters; the master's byte in a slave's answer of Connection or
--              Parameter; the second byte of a watchdog 0, or of more than 512 application parameters
--   Crc        the first group whose CRC isn't that of the chain
-- So a trace with a frame that was lost, or with a reset, differs. The rows and their order are this profile's own.
use Rattle.std.specs.Prelude.{ℕ, suc, ◌+◌, ◌==◌, nat_lt, nat_le, List, [], ◌∷◌, ◌++◌, length, take, slice_index, replicate, Bool, false, not, ◌||◌, Option, Some, None, option_map, if◌then◌else◌}
use Rattle.std.specs.Option.{option_or}
use Rattle.fsoe_base.specs.declared.command.Command.{Command}
use Rattle.fsoe_base.specs.declared.command.Command.TheVariants as command
use Rattle.fsoe_base.specs.declared.command.End.{End}
use Rattle.fsoe_base.specs.declared.command.End.TheVariants as side
use Rattle.fsoe_base.specs.declared.command.State.{State}
use Rattle.fsoe_base.specs.declared.command.State.TheVariants as state
use Rattle.fsoe_base.specs.declared.lengths.Lengths.{Lengths}
use Rattle.fsoe_base.specs.Bytes.{low_high}
use Rattle.fsoe_base.specs.Command.{command_byte, command_of}
use Rattle.fsoe_base.specs.Lengths.{frame_len}
use Rattle.fsoe_base.specs.LengthsOf.{length_of}
use Rattle.fsoe_frame.specs.Parts.{Frame, frame_of}
use Rattle.seq_chain.specs.declared.chain.Chain.{Chain}
use Rattle.seq_chain.specs.Chain.{sealed_by}
use Rattle.seq_chain.specs.Reset.{reset_crcs}
use Rattle.param_load.specs.Payload.{number_at, padded}
use Rattle.end_model.specs.Phases.{phase_of, same_phase}
use Rattle.end_model.specs.Verdict.{is_slave_conn}
use Rattle.exchange_model.specs.Ends.{same_end}
use Rattle.trace_diag.specs.Before.{Before, before, chain_at}
use Rattle.trace_diag.specs.Trace.{Noted, trace_piece_len}
use Rattle.trace_diag.specs.declared.field.Field.{Field}
use Rattle.trace_diag.specs.declared.field.Field.TheVariants as field

-- whether a command is there, and one of this phase
abbrev pub is_of : State → Option Command → Bool
is_of phase None = false
is_of phase (Some c) = same_phase phase (phase_of c)

-- whether a connection id is as it must be in a phase, where the first Connection frame had this one, if there was one:
-- the first one's may be any but 0, so that another there is told by the payload or by a CRC
abbrev pub conn_holds : State → Option ℕ → ℕ → Bool
conn_holds state.Reset first conn = conn == 0
conn_holds state.Session first conn = conn == 0
conn_holds _ first conn = is_slave_conn first conn

-- whether a byte may stand at a place of a session id, which is followed by zeros, as each payload is
abbrev pub id_holds : ℕ → ℕ → Bool
id_holds place b = nat_lt place 2 || b == 0

-- the connection id of the frame, and any address
abbrev pub connection_holds : ℕ → ℕ → ℕ → Bool
connection_holds conn place b =
    if nat_lt place 2 then b == slice_index (low_high conn) place
    else nat_lt place 4 || b == 0

-- 2 as the length of the communication parameters, a watchdog that isn't 0, at most 512 as the number of application
-- parameters, and these. Of a number the second byte is the one that doesn't hold. u begins with the parameters, as far
-- as they have come, of which the first six are looked at
abbrev pub parameter_holds : List ℕ → ℕ → ℕ → Bool
parameter_holds u place b =
    if nat_lt place 2 then b == slice_index (low_high 2) place
    else if place == 3 then nat_lt 0 (number_at 2 u)
    else if place == 5 then nat_le (number_at 4 u) 512
    else nat_lt place (6 + number_at 4 u) || b == 0

-- a payload byte is as it must be, by the phase; a Reset frame carries zeros
abbrev pub payload_holds : State → ℕ → List ℕ → ℕ → ℕ → Bool
payload_holds state.Session conn u place b = id_holds place b
payload_holds state.Connection conn u place b = connection_holds conn place b
payload_holds state.Parameter conn u place b = parameter_holds u place b
payload_holds _ conn u place b = b == 0

-- whether the byte at place p of a frame may stand there that carries c bytes of a payload, from a place of that on;
-- zeros follow them
abbrev pub piece_holds : ℕ → (ℕ → ℕ → Bool) → ℕ → ℕ → ℕ → Bool
piece_holds c holds from p b = if nat_lt p c then holds (from + p) b else b == 0

-- the first place of these bytes, of which the first stands at p, where they don't hold
abbrev pub first_failing : (ℕ → ℕ → Bool) → ℕ → List ℕ → Option ℕ
first_failing holds p [] = None
first_failing holds p (b ∷ bytes) = if holds p b then first_failing holds (suc p) bytes else Some p

-- the first byte that isn't as it must be, of a frame that carries a piece of its end's own payload
abbrev pub wrong_in_piece : ℕ → Before → State → Frame → Option ℕ
wrong_in_piece c k phase f = first_failing (piece_holds c (payload_holds phase f.conn (k.parameters ++ take c f.load)) k.place) 0 f.load

-- the first place, from i on, where the first list has another number than the second
abbrev pub first_differing : ℕ → List ℕ → List ℕ → Option ℕ
first_differing i [] due = None
first_differing i (crc ∷ crcs) [] = Some i
first_differing i (crc ∷ crcs) (want ∷ due) = if crc == want then first_differing (suc i) crcs due else Some i

-- the first byte of an answer that isn't that of the piece which it repeats; zeros follow
abbrev pub wrong_in_echo : Before → Frame → Option ℕ
wrong_in_echo k f = first_differing 0 f.load (padded k.piece (length f.load))

-- data are any bytes in ProcessData, and zeros in FailSafeData
abbrev pub wrong_in_data : Frame → Option ℕ
wrong_in_data f = if f.cmd == command_byte command.ProcessData then None else first_differing 0 f.load (replicate (length f.load) 0)

-- the first data byte that isn't as it must be: a slave repeats the master's piece in Connection and Parameter
abbrev pub wrong_byte : ℕ → Before → End → State → Frame → Option ℕ
wrong_byte c k which state.Data f = wrong_in_data f
wrong_byte c k side.Slave state.Connection f = wrong_in_echo k f
wrong_byte c k side.Slave state.Parameter f = wrong_in_echo k f
wrong_byte c k which phase f = wrong_in_piece c k phase f

-- the CRCs that a frame of a phase must have, by its command, connection id and safe data: those of the next frame of
-- its end's chain, and Reset frames stand outside of the chain
abbrev pub crcs_due : State → Chain → End → Frame → List ℕ
crcs_due state.Reset chain which f = reset_crcs f.load
crcs_due _ chain which f = (sealed_by (chain_at which chain) f.conn f.cmd f.load).crcs

-- the last two rows
abbrev pub contents_field : ℕ → Before → End → Frame → Option Field
contents_field c k which f =
    option_or (option_map field.Data (wrong_byte c k which k.due f)) (option_map field.Crc (first_differing 0 f.crcs (crcs_due k.due k.chain which f)))

-- the rows after Length, of a frame that has the right length and comes from this end, whose turn it is
abbrev pub frame_field : ℕ → Before → End → Frame → Option Field
frame_field c k which f =
    if not (is_of k.due (command_of f.cmd)) then Some field.Command
    else if not (conn_holds k.due k.conn f.conn) then Some field.Conn
    else contents_field c k which f

-- all rows, where this is known of the frames before
abbrev pub field_by : Lengths → Before → Noted → Option Field
field_by lengths k x =
    if not (same_end x.from k.turn) then Some field.Turn
    else if not (length x.frame == frame_len (length_of lengths x.from)) then Some field.Length
    else frame_field (trace_piece_len lengths) k x.from (frame_of (length_of lengths x.from) x.frame)

-- the first row of the table that applies to a frame after these, if one does
abbrev pub field_of : Lengths → List Noted → Noted → Option Field
field_of lengths t x = field_by lengths (before lengths t) x
