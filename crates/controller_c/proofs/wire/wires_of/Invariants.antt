use Rattle.std.proofs.Common.{◌≡◌, map, take}
use Rattle.controller_c.specs.Wire.{wire_of}
use Rattle.controller_c.proofs.wire.wires_of.Given as goal

abbrev pub invariant-loop-wire : goal.invariant-loop-wire
invariant-loop-wire l = l.wires.items ≡ map wire_of (take l.wire-index l.named)
