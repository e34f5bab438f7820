-- The bytes and names of commands, the names of states, and codes. The bytes are those of the public standard.
use Rattle.std.specs.Prelude.{ℕ, ◌==◌, List, Option, Some, None, codes, if◌then◌else◌}
use Rattle.fsoe_base.specs.declared.command.Code.{Code}
use Rattle.fsoe_base.specs.declared.command.Command.{Command}
use Rattle.fsoe_base.specs.declared.command.Command.TheVariants as command
use Rattle.fsoe_base.specs.declared.command.State.{State}
use Rattle.fsoe_base.specs.declared.command.State.TheVariants as state

-- the byte that stands for a command in a frame
abbrev pub command_byte : Command → ℕ
command_byte command.Reset = 0x2A
command_byte command.Session = 0x4E
command_byte command.Connection = 0x64
command_byte command.Parameter = 0x52
command_byte command.FailSafeData = 0x08
command_byte command.ProcessData = 0x36

-- the command that a byte stands for, if it stands for one
abbrev pub command_of : ℕ → Option Command
command_of b =
    if b == 0x2A then Some command.Reset
    else if b == 0x4E then Some command.Session
    else if b == 0x64 then Some command.Connection
    else if b == 0x52 then Some command.Parameter
    else if b == 0x08 then Some command.FailSafeData
    else if b == 0x36 then Some command.ProcessData
    else None

-- the name that a report has for a command
abbrev pub command_name : Command → List ℕ
command_name command.Reset = codes "Reset"
command_name command.Session = codes "Session"
command_name command.Connection = codes "Connection"
command_name command.Parameter = codes "Parameter"
command_name command.FailSafeData = codes "FailSafeData"
command_name command.ProcessData = codes "ProcessData"

-- the name that a report has for a state
abbrev pub state_name : State → List ℕ
state_name state.Reset = codes "Reset"
state_name state.Session = codes "Session"
state_name state.Connection = codes "Connection"
state_name state.Parameter = codes "Parameter"
state_name state.Data = codes "Data"

-- the code with this number
abbrev pub code : ℕ → Code
code n = record { 0 = n }
