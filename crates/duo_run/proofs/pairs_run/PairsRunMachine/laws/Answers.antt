use Rattle.duo_run.proofs.Pairs.Running.{pairs_so_far, some_report}
use Rattle.duo_run.proofs.pairs_run.PairsRunMachine.laws.Goals as goal

pub returns-clause-some : goal.returns-clause-some
returns-clause-some c = λ alloc. some_report

pub returns-clause-so_far : goal.returns-clause-so_far
returns-clause-so_far c = λ first run now h log text k. pairs_so_far run.duos.items run.others.items run.entries h log text k
