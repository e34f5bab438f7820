-- The outputs of an end. The fail-safe value 0 of every byte is this profile's own.
use Rattle.std.specs.Prelude.{ℕ, List, length, replicate}
use Rattle.fsoe_base.specs.declared.command.Command.{Command}
use Rattle.fsoe_base.specs.declared.command.Command.TheVariants as command

-- the outputs that a taken data frame gives: its load where it is ProcessData, else zeros
abbrev pub outputs_of : Command → List ℕ → List ℕ
outputs_of command.ProcessData load = load
outputs_of _ load = replicate (length load) 0
