use Rattle.plant_run.proofs.Common.{HearsOne, seen}
use Rattle.plant_run.proofs.Hearing.{HeardTo}
use Rattle.plant_run.proofs.watching.hear.Given as goal

abbrev pub invariant-loop-i : goal.invariant-loop-i
invariant-loop-i g l = HeardTo (HearsOne (seen g.A.Application.rule g.A.Application.holds g.A.Application.guards l.plant) l.tick) l.i l.initial.all l.all
