use Rattle.plant_core.proofs.Common.{is_named}
use Rattle.std.proofs.Common.{◌≡◌, drop}
use Rattle.plant_core.proofs.making.is_named.Given as goal

abbrev pub invariant-loop-bound : goal.invariant-loop-bound
invariant-loop-bound l = is_named (drop l.bound-index l.bounds) l.link ≡ is_named l.bounds l.link
