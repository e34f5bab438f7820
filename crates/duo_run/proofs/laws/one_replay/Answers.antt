use Rattle.std.proofs.Common.{rules}
use Rattle.duo_run.proofs.Pair.OneReplay.{one_entries, some_replay}
use Rattle.duo_run.proofs.laws.one_replay.Goals as goal

pub returns-clause-some : goal.returns-clause-some
returns-clause-some c = some_replay

pub returns-clause-one_text : goal.returns-clause-one_text
returns-clause-one_text c = λ input a b x y h k. search (rules, one_entries)

pub returns-clause-one_ending : goal.returns-clause-one_ending
returns-clause-one_ending c = λ input a b x y h k. search (rules, one_entries)
