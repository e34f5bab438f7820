-- The lengths of a connection.
use Rattle.std.specs.Prelude.{ℕ}
use Rattle.fsoe_base.specs.declared.command.End.{End}
use Rattle.fsoe_base.specs.declared.command.End.TheVariants as sender
use Rattle.fsoe_base.specs.declared.lengths.Lengths.{Lengths}

-- the number of safe data bytes that an end sends
abbrev pub length_of : Lengths → End → ℕ
length_of lengths sender.Master = lengths.master
length_of lengths sender.Slave = lengths.slave
