-- The numbers that a program ends with.
use Rattle.std.specs.Prelude.{ℕ}
use Rattle.fsoe_io.specs.declared.status.Status.{Status}
use Rattle.fsoe_io.specs.declared.status.Status.TheVariants.{Ok, Other, Usage, Config, Line, Desk, Read, Write, Memory}

abbrev pub status_number : Status → ℕ
status_number Ok = 0
status_number Other = 1
status_number Usage = 2
status_number Config = 3
status_number Line = 4
status_number Desk = 5
status_number Read = 6
status_number Write = 7
status_number Memory = 8
