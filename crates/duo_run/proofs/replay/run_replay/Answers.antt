use Rattle.duo_run.proofs.Pairs.EitherVersion.{ran_replay}
use Rattle.duo_run.proofs.replay.run_replay.Goals as goal

pub returns : goal.returns
returns g c = ran_replay c.run_either.result _ c.run_either.ensures.ran
