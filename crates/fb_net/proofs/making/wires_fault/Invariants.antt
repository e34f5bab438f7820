use Rattle.fb_net.proofs.Common.{wires_fault}
use Rattle.std.proofs.Common.{◌≡◌, drop}
use Rattle.fb_net.proofs.making.wires_fault.Given as goal

abbrev pub invariant-loop-wire : goal.invariant-loop-wire
invariant-loop-wire l = wires_fault l.ins l.before l.number (drop l.wire-index l.wires) ≡ wires_fault l.ins l.before l.number l.wires
