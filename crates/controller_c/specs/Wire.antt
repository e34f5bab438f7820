-- Bits, wires and faults of a net, as C code names them.
use Rattle.std.specs.Prelude.{◌==◌, if◌then◌else◌}
use Rattle.failsafe_io.specs.declared.bit.Bit.{Bit}
use Rattle.fb_net.specs.declared.fault.NetFault.{NetFault}
use Rattle.fb_net.specs.declared.fault.NetFault.TheVariants as net_fault
use Rattle.fb_net.specs.declared.wire.Wire.{Wire}
use Rattle.fb_net.specs.declared.wire.Wire.TheVariants as wire
use Rattle.controller_c.specs.declared.wire.GpBit.{GpBit}
use Rattle.controller_c.specs.declared.wire.GpFault.{GpFault}
use Rattle.controller_c.specs.declared.wire.GpWire.{GpWire}

-- the bit that is named
abbrev pub named_bit : GpBit → Bit
named_bit b = record { link = b.connection; bit = b.bit }

-- the wire that is named
abbrev pub wire_of : GpWire → Wire
wire_of w = if w.connection == 0 then wire.Block w.number else wire.Input (record { link = w.connection; bit = w.number })

-- where a fault is
abbrev pub fault_place : NetFault → GpFault
fault_place (net_fault.Arity block) = record { block = block; connection = 0; bit = 0 }
fault_place (net_fault.Later block) = record { block = block; connection = 0; bit = 0 }
fault_place (net_fault.NoInput bit) = record { block = 0; connection = bit.link; bit = bit.bit }
fault_place (net_fault.NoOutput bit) = record { block = 0; connection = bit.link; bit = bit.bit }
fault_place (net_fault.Twice bit) = record { block = 0; connection = bit.link; bit = bit.bit }
fault_place net_fault.Memory = record { block = 0; connection = 0; bit = 0 }
