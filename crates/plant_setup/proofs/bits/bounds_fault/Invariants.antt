use Rattle.std.proofs.Common.{◌≡◌, drop}
use Rattle.plant_setup.specs.Setup.{bounds_fault}
use Rattle.plant_setup.proofs.bits.bounds_fault.Given as goal

abbrev pub invariant-loop-bound : goal.invariant-loop-bound
invariant-loop-bound l = bounds_fault l.ins l.outs (drop l.bound-index l.bounds) ≡ bounds_fault l.ins l.outs l.bounds
