use Rattle.std.proofs.Common.{rules}
use Rattle.duo_run.proofs.Pairs.OneReplay.{one_list}
use Rattle.duo_run.proofs.Pairs.Running.{some_report}
use Rattle.duo_run.proofs.laws.one_replay_of_pairs.Goals as goal

pub returns-clause-some : goal.returns-clause-some
returns-clause-some c = some_report

pub returns-clause-one_text : goal.returns-clause-one_text
returns-clause-one_text c = λ input a b x y h k. search (rules, one_list)

pub returns-clause-one_ending : goal.returns-clause-one_ending
returns-clause-one_ending c = λ input a b x y h k. search (rules, one_list)
