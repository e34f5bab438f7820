-- The phase of each command, and which frames are guarded. The commands and the states are those of the public
-- standard. Which phase a command has, and which frames are guarded, is this profile's own.
use Rattle.std.specs.Prelude.{ℕ, ◌==◌, List, [], ◌∷◌, Bool, true, false, Option, Some, None}
use Rattle.fsoe_base.specs.declared.command.State.{State}
use Rattle.fsoe_base.specs.declared.command.State.TheVariants as state
use Rattle.fsoe_base.specs.declared.command.Command.{Command}
use Rattle.fsoe_base.specs.declared.command.Command.TheVariants as command
use Rattle.fsoe_base.specs.Command.{command_byte, command_of}
use Rattle.fsoe_base.specs.Data.{is_data}

-- the phase of a frame with this command
abbrev pub phase_of : Command → State
phase_of command.Reset = state.Reset
phase_of command.Session = state.Session
phase_of command.Connection = state.Connection
phase_of command.Parameter = state.Parameter
phase_of command.FailSafeData = state.Data
phase_of command.ProcessData = state.Data

-- whether two phases are the same
abbrev pub same_phase : State → State → Bool
same_phase state.Reset state.Reset = true
same_phase state.Session state.Session = true
same_phase state.Connection state.Connection = true
same_phase state.Parameter state.Parameter = true
same_phase state.Data state.Data = true
same_phase _ _ = false

-- whether a command is that of Reset frames, which stand outside of each session
abbrev pub is_reset : Command → Bool
is_reset command.Reset = true
is_reset _ = false

-- whether frames of this command are guarded: they carry the connection id of their session
abbrev pub is_guarded_command : Command → Bool
is_guarded_command command.Reset = false
is_guarded_command command.Session = false
is_guarded_command _ = true

-- whether these bytes are a frame with this command; no bytes are none
abbrev pub has_command : Command → List ℕ → Bool
has_command c [] = false
has_command c (b ∷ bytes) = b == command_byte c

-- the command of a frame by its first byte, if it has one
abbrev pub command_in : List ℕ → Option Command
command_in [] = None
command_in (b ∷ bytes) = command_of b

-- the phase of a frame with this command, if it has one
abbrev pub phase_of_known : Option Command → State
phase_of_known None = state.Reset
phase_of_known (Some c) = phase_of c

-- the phase of a frame
abbrev pub phase_of_frame : List ℕ → State
phase_of_frame bytes = phase_of_known (command_in bytes)

-- whether there is a command, and one of guarded frames
abbrev pub is_guarded_if : Option Command → Bool
is_guarded_if None = false
is_guarded_if (Some c) = is_guarded_command c

-- whether these bytes are a guarded frame
abbrev pub is_guarded_frame : List ℕ → Bool
is_guarded_frame bytes = is_guarded_if (command_in bytes)

-- whether there is a command, and one of data frames
abbrev pub is_data_if : Option Command → Bool
is_data_if None = false
is_data_if (Some c) = is_data c

-- whether these bytes are a data frame
abbrev pub is_data_frame : List ℕ → Bool
is_data_frame bytes = is_data_if (command_in bytes)
