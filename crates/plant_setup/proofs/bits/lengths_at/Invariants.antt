use Rattle.std.proofs.Common.{◌≡◌, take}
use Rattle.plant_setup.specs.Setup.{end_lengths}
use Rattle.plant_setup.proofs.bits.lengths_at.Given as goal

abbrev pub invariant-loop-link : goal.invariant-loop-link
invariant-loop-link l = l.lengths.items ≡ end_lengths l.end (take l.link-index l.links)
