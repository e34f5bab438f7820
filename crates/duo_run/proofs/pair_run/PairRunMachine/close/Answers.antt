use Rattle.duo_run.proofs.Common.{append-nil, events_line, other_line}
use Rattle.std.proofs.Common.{◌≡◌, ◌++◌, rules}
use Rattle.duo_run.proofs.Pair.Replaying.{pair_ends, pair_ends_whole}
use Rattle.duo_run.proofs.pair_run.PairRunMachine.close.Goals as goal

pub returns-clause-closes : goal.returns-clause-closes
returns-clause-closes c = λ first h log lines count k.
    let written : c.push_other.new.text ≡ events_line c.args.events ++ other_line c.other-other.result = search rules in
    rw append-nil (pair_ends c.args.self.now.duo h log lines c.push_other.new.text c.args.events c.other-other.result c.ended_with.result count c.other-other.ensures written c.ended_with.ensures k)

pub returns-clause-ends : goal.returns-clause-ends
returns-clause-ends c = λ first h log lines k. pair_ends_whole c.args.self.now.duo h log lines c.other-other.result c.ended_with.result c.other-other.ensures c.ended_with.ensures k
