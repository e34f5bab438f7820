use Rattle.duo_run.proofs.Pair.OneReplay.{some_replay}
use Rattle.duo_run.proofs.Pair.Replaying.{pair_so_far}
use Rattle.duo_run.proofs.pair_run.PairRunMachine.laws.Goals as goal

pub returns-clause-some : goal.returns-clause-some
returns-clause-some c = λ handed. some_replay

pub returns-clause-so_far : goal.returns-clause-so_far
returns-clause-so_far c = λ first run now h log text k. pair_so_far run.duo h log text k
