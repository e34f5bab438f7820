-- The tests of a delivered frame, in order: first those that need no session. The order is this profile's own.
use Rattle.std.specs.Prelude.{ℕ, ◌==◌, Bool, List, length, Option, Some, None, Result, Ok, Err, if◌then◌else◌, not, nat_eq, false}
use Rattle.std.specs.Cmp.Lexicographic.{pointwise}
use Rattle.fsoe_base.specs.declared.command.Code.{Code}
use Rattle.fsoe_base.specs.declared.command.Command.{Command}
use Rattle.fsoe_base.specs.declared.command.Command.TheVariants as command
use Rattle.fsoe_base.specs.declared.did.Dropped.TheVariants as dropped
use Rattle.fsoe_base.specs.Codes.{unknown_command, command_not_allowed, wrong_crc, wrong_connection}
use Rattle.fsoe_base.specs.Command.{command_of}
use Rattle.fsoe_base.specs.Lengths.{frame_len}
use Rattle.fsoe_frame.specs.Parts.{Frame, frame_of}
use Rattle.seq_chain.specs.declared.opened.Opened.{Opened}
use Rattle.seq_chain.specs.declared.opened.Opened.TheVariants as opened_as
use Rattle.seq_chain.specs.Reset.{reset_view}

-- a Reset frame: its connection id, its CRCs, and the bytes after its code
abbrev pub reset_opened : Frame → Result Code Code → Opened
reset_opened f (Err fault) = opened_as.Refuse fault
reset_opened f (Ok x) = opened_as.ResetFrame x f

-- a frame by its command, if its first byte stands for one
abbrev pub command_opened : Frame → Option Command → Opened
command_opened f None = opened_as.Refuse unknown_command
command_opened f (Some command.Reset) = reset_opened f (reset_view f)
command_opened f (Some cmd) = opened_as.OfSession (record { command = cmd; frame = f })

-- a frame with l bytes of safe data: its length, whether it repeats the frame that was taken last, and its command
abbrev pub opened : ℕ → Bool → List ℕ → Opened
opened l repeats bytes =
    if length bytes == frame_len l
    then (if repeats then opened_as.Drop dropped.Repeat else command_opened (frame_of l bytes) (command_of (frame_of l bytes).cmd))
    else opened_as.Drop dropped.Length

-- whether these are the bytes of the frame that is kept as taken last
abbrev pub is_repeat : Option (List ℕ) → List ℕ → Bool
is_repeat None bytes = false
is_repeat (Some last) bytes = pointwise nat_eq last bytes

-- the code of the first of these tests of a session that a frame fails: whether its command is allowed, its connection
-- id is right, and its CRCs fit
abbrev pub session_fault : Bool → Bool → Bool → Option Code
session_fault is_allowed has_conn_id does_fit =
    if not is_allowed then Some command_not_allowed
    else if not has_conn_id then Some wrong_connection
    else if not does_fit then Some wrong_crc
    else None
