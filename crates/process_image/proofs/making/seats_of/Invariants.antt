use Rattle.process_image.proofs.Common.{AllZip, IsNewSeat}
use Rattle.process_image.proofs.making.seats_of.Given as goal

abbrev pub invariant-loop-slot : goal.invariant-loop-slot
invariant-loop-slot l = AllZip IsNewSeat l.yielded l.seats.items
