use Rattle.duo_run.proofs.Common.{Entry, Fair, ServesSteadily, steady_fair, steady_serves}
use Rattle.std.proofs.Common.{List, sym, subst}
use Rattle.duo_run.proofs.Pair.Ran.{entries_are_world}
use Rattle.duo_run.proofs.laws.steady.Goals as goal

pub returns-clause-serves : goal.returns-clause-serves
returns-clause-serves c = λ ms ss first last events w matching proper steady h r.
    subst (λ (w : List Entry). ServesSteadily ms events w) (sym (entries_are_world ms ss first last events w h r)) (steady_serves ms ss events matching proper steady)

pub returns-clause-fair : goal.returns-clause-fair
returns-clause-fair c = λ ms ss first last events w matching proper steady h r.
    subst (λ (w : List Entry). Fair ms.lengths w) (sym (entries_are_world ms ss first last events w h r)) (steady_fair ms ss events matching proper steady)
