use Rattle.image_file.proofs.Common.{first_outside, places_from}
use Rattle.std.proofs.Common.{◌≡◌, ◌+◌, drop}
use Rattle.image_file.proofs.spans.first_outside.Given as goal

abbrev pub invariant-loop-i : goal.invariant-loop-i
invariant-loop-i l = first_outside l.size_in l.size_out (places_from (l.i + 1) (drop l.i l.slots)) ≡ first_outside l.size_in l.size_out (places_from 1 l.slots)
