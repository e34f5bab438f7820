use Rattle.process_image.proofs.Common.{IsSampleStep, told_by}
use Rattle.process_image.proofs.Looping.{DoneSoFar}
use Rattle.process_image.proofs.seat.sample_all.Given as goal

abbrev pub invariant-loop-i : goal.invariant-loop-i
invariant-loop-i l = DoneSoFar (IsSampleStep l.input) told_by l.initial.seats l.initial.output l.seats l.output l.told l.i
