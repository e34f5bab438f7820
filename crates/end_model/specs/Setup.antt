-- What one end is set to, whichever end it is. The settings are this profile's own.
use Rattle.std.specs.Prelude.{ℕ, min}
use Rattle.fsoe_base.specs.declared.command.End.{End}
use Rattle.fsoe_base.specs.declared.command.End.TheVariants as side
use Rattle.fsoe_base.specs.declared.lengths.Lengths.{Lengths}
use Rattle.param_load.specs.declared.master_settings.MasterSettings.{MasterSettings}
use Rattle.param_load.specs.declared.slave_settings.SlaveSettings.{SlaveSettings}

-- the settings of either end
pub data Setup : Type 0 where
  OfMaster : MasterSettings → Setup
  OfSlave : SlaveSettings → Setup

-- which end is set so
abbrev pub end_of : Setup → End
end_of (OfMaster ms) = side.Master
end_of (OfSlave ss) = side.Slave

-- the lengths of the connection
abbrev pub lengths_of : Setup → Lengths
lengths_of (OfMaster ms) = ms.lengths
lengths_of (OfSlave ss) = ss.lengths

-- the safe data bytes of a frame that this end sends
abbrev pub sends : Setup → ℕ
sends (OfMaster ms) = ms.lengths.master
sends (OfSlave ss) = ss.lengths.slave

-- the safe data bytes of a frame that its peer sends
abbrev pub receives : Setup → ℕ
receives (OfMaster ms) = ms.lengths.slave
receives (OfSlave ss) = ss.lengths.master

-- the bytes of a payload that one frame carries: the smaller of both lengths
abbrev pub piece_len : Setup → ℕ
piece_len s = min (lengths_of s).master (lengths_of s).slave

-- the nonce as long as no other one was set
abbrev pub first_nonce : Setup → ℕ
first_nonce (OfMaster ms) = ms.nonce
first_nonce (OfSlave ss) = ss.nonce
