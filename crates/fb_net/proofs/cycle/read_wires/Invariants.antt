use Rattle.fb_net.proofs.Common.{wire_value}
use Rattle.std.proofs.Common.{◌≡◌, map, take}
use Rattle.fb_net.proofs.cycle.read_wires.Given as goal

abbrev pub invariant-loop-wire : goal.invariant-loop-wire
invariant-loop-wire l = l.ins.items ≡ map (wire_value l.values l.inputs) (take l.wire-index l.wires)
