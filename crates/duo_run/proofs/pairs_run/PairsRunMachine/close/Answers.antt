use Rattle.duo_run.proofs.Common.{least}
use Rattle.std.proofs.Common.{ap, ◌∙◌}
use Rattle.duo_run.proofs.Pairs.Ending.{pairs_end_whole}
use Rattle.duo_run.proofs.pairs_run.PairsRunMachine.close.Goals as goal

pub returns-clause-ends : goal.returns-clause-ends
returns-clause-ends c = λ first h log lines k.
    pairs_end_whole c.args.self.now.duos.items c.args.self.now.others.items c.args.self.now.entries h log lines c.least.result c.ended_with.result k (c.least.ensures ∙ ap least c.as_slice-2.ensures.value) c.ended_with.ensures
