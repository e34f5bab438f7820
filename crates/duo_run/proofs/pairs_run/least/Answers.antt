use Rattle.duo_run.proofs.Common.{slice_get-get_or}
use Rattle.std.proofs.Common.{rules}
use Rattle.duo_run.proofs.Pairs.Least.{least_more}
use Rattle.duo_run.proofs.pairs_run.least.Goals as goal

pub loop-number-preserved : goal.loop-number-preserved
loop-number-preserved c = search (rules, least_more, slice_get-get_or)
