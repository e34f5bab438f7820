use Rattle.schedule_file.proofs.Common.{Nowhere, Passes, is_byte}
use Rattle.schedule_file.proofs.field.space.Given as goal

abbrev pub invariant-loop-at : goal.invariant-loop-at
invariant-loop-at l = Nowhere (Passes (is_byte 32) l.text) 0 l.at
