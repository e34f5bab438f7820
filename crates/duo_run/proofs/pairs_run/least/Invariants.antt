use Rattle.duo_run.proofs.Common.{least}
use Rattle.std.proofs.Common.{◌≡◌, take}
use Rattle.duo_run.proofs.pairs_run.least.Given as goal

abbrev pub invariant-loop-number : goal.invariant-loop-number
invariant-loop-number l = l.least ≡ least (take l.number-index l.numbers)
