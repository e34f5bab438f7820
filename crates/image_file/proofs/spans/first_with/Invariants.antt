use Rattle.image_file.proofs.Common.{first_with, places_from}
use Rattle.std.proofs.Common.{◌≡◌, ◌+◌, drop}
use Rattle.image_file.proofs.spans.first_with.Given as goal

abbrev pub invariant-loop-i : goal.invariant-loop-i
invariant-loop-i l = first_with l.own (places_from (l.n + l.i) (drop l.i l.rest)) ≡ first_with l.own (places_from l.n l.rest)
