use Rattle.duo_run.proofs.Pairs.EitherVersion.{pair_ran}
use Rattle.duo_run.proofs.pair_run.run_pair.Goals as goal

pub returns : goal.returns
returns g c = pair_ran c.run_over.result _ c.run_over.ensures.ran
