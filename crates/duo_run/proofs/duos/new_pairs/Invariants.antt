use Rattle.duo_run.proofs.Common.{AllZip, DuoStands}
use Rattle.std.proofs.Common.{[]}
use Rattle.duo_run.proofs.duos.new_pairs.Given as goal

abbrev pub invariant-loop-master : goal.invariant-loop-master
invariant-loop-master l = AllZip (λ pair v. DuoStands pair.0 pair.1 v []) l.yielded l.duos.items
