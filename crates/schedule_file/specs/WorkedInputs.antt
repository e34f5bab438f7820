-- Inputs of a slave's node, whose headers are alike.
use Rattle.std.specs.Prelude.{ℕ, List, ◌++◌, codes}
use Rattle.fsoe_base.specs.declared.command.End.TheVariants as side
use Rattle.schedule_file.specs.declared.header_kind.HeaderKind.TheVariants.{Node}
use Rattle.schedule_file.specs.Input.{Input, input_of}

-- the header of a slave in profile One with two safe data bytes each way and no application bytes
abbrev pub header_text : List ℕ
header_text = codes "fsoe 1 node slave\nlengths 2 2\nslave 2 100 1000 2\nrule any 0\ngo\n"

-- what an input says that has this after the header
abbrev pub input_with : List ℕ → Input
input_with text = input_of (Node side.Slave) (header_text ++ text)
