-- When a handle may be handed in, and what is known of the end behind it.
use Rattle.std.specs.Prelude.{◌≡◌, false, Option, is_some}
use Rattle.master_core.specs.MasterView.{MasterView}
use Rattle.master_core.specs.Now.{is_due}
use Rattle.c_values.specs.Place.{IfThere}
use Rattle.fsoe_c.specs.Ids.{WithIds}
use Rattle.fsoe_c.specs.declared.master.GpMaster.{GpMaster}
use Rattle.fsoe_c.specs.declared.slave.GpSlave.{GpSlave}

-- the flag says whether a slave is there
abbrev pub IsSoundSlave : GpSlave → Type 0
IsSoundSlave handle = handle.live ≡ is_some handle.place.slave

-- the flag says whether a master is there
abbrev pub IsSoundMaster : GpMaster → Type 0
IsSoundMaster handle = handle.live ≡ is_some handle.place.master

-- the master that is there, if one is, has no frame that is due
abbrev pub IsAtRest : Option (WithIds MasterView) → Type 0
IsAtRest place = IfThere place (λ master. is_due master.core.state ≡ false)
