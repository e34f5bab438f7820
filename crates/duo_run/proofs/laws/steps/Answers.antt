use Rattle.std.proofs.Common.{[]}
use Rattle.duo_run.proofs.Pair.Ran.{entries_are_world, ran_after}
use Rattle.duo_run.proofs.laws.steps.Goals as goal

pub returns-clause-world : goal.returns-clause-world
returns-clause-world c = entries_are_world

pub returns-clause-stands : goal.returns-clause-stands
returns-clause-stands c = λ ms ss first last events w h r. (ran_after ms ss first last events [] w h r).1
