-- One end of a connection, whichever it is.
use Rattle.std.specs.Prelude.{◌≡◌, false}
use Rattle.end_model.specs.Setup.{Setup, OfMaster, OfSlave}
use Rattle.master_core.specs.Now.{is_due}
use Rattle.end_core.specs.declared.one_end.Core.{Core}
use Rattle.end_core.specs.declared.one_end.Core.TheVariants as core

-- what an end is set to
abbrev pub setup_of : Core → Setup
setup_of (core.Master m) = OfMaster m.kit.settings
setup_of (core.Slave s) = OfSlave s.kit.settings

-- no frame of an end is due: a master that accepted a frame has replied, and a slave answers at once
abbrev pub IsAtRest : Core → Type 0
IsAtRest (core.Master m) = is_due m.state ≡ false
IsAtRest (core.Slave s) = Unit {0}
