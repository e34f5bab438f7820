use Rattle.plant_run.proofs.Common.{watched_by}
use Rattle.std.proofs.Common.{◌≡◌, [], take}
use Rattle.plant_run.proofs.watching.watched_made.Given as goal

abbrev pub invariant-loop-i : goal.invariant-loop-i
invariant-loop-i l = l.made.items ≡ watched_by l.links (λ bound. []) (take l.i l.bounds)
