use Rattle.process_image.proofs.Common.{IsStepOf, did_in}
use Rattle.param_load.specs.declared.entry.Move.TheVariants as move
use Rattle.process_image.proofs.Looping.{DoneSoFar}
use Rattle.process_image.proofs.seat.tick_all.Given as goal

abbrev pub invariant-loop-i : goal.invariant-loop-i
invariant-loop-i l = DoneSoFar (IsStepOf move.Tick) did_in l.initial.seats l.initial.output l.seats l.output l.dids l.i
