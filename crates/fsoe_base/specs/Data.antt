-- Data frames. Their commands are those of the public standard, the fail-safe value 0 is this profile's own.
use Rattle.std.specs.Prelude.{ℕ, Bool, true, false, List}
use Rattle.fsoe_base.specs.declared.command.Command.{Command}
use Rattle.fsoe_base.specs.declared.command.Command.TheVariants as command
use Rattle.fsoe_base.specs.Bytes.{all_zero}

-- whether a command is that of data frames
abbrev pub is_data : Command → Bool
is_data command.ProcessData = true
is_data command.FailSafeData = true
is_data _ = false

-- a FailSafeData frame carries zeros alone
abbrev pub data_holds : Command → List ℕ → Bool
data_holds command.FailSafeData load = all_zero load
data_holds _ load = true
