use Rattle.duo_run.proofs.Common.{append-nil, codes, decimal, told_line}
use Rattle.std.proofs.Common.{◌≡◌, ◌++◌, rules}
use Rattle.duo_run.proofs.Pair.Replaying.{pair_counted, pair_fits, pair_goes_on, pair_unsent}
use Rattle.duo_run.proofs.pair_run.PairRunMachine.report.Goals as goal

pub advance-requires-clause-fits : goal.advance-requires-clause-fits
advance-requires-clause-fits c = pair_fits c.args.self.now.duo c.args.event.now c.args.number c.requires.1

pub advance-requires-clause-fewer : goal.advance-requires-clause-fewer
advance-requires-clause-fewer c = pair_counted c.args.self.now.duo c.args.event.now c.args.number c.requires.1

pub returns-in-Ok-clause-takes_event : goal.returns-in-Ok-clause-takes_event
returns-in-Ok-clause-takes_event c = λ first.
    let written : c.push_told.new.text ≡ decimal c.args.number ++ codes " " ++ told_line c.end_of-at.result c.advance.new.answer.did c.state_of.result c.outputs_of-outputs.result.now c.advance.new.answer.sent = search rules in
    rw append-nil
    (pair_goes_on c.args.self.now.duo c.advance.new.self c.args.event.now c.args.number c.end_of-at.result c.advance.new.answer.did c.state_of.result c.outputs_of-outputs.result.now c.advance.new.answer.sent c.push_told.new.text c.in-Ok.ensures.advances
    c.end_of-at.ensures c.state_of.ensures c.outputs_of-outputs.ensures.shown written)

pub returns-in-Err-NoSuchFrame-clause-stopped : goal.returns-in-Err-NoSuchFrame-clause-stopped
returns-in-Err-NoSuchFrame-clause-stopped c = λ first. pair_unsent c.args.self.now.duo c.args.event.now c.in-Err-NoSuchFrame.ensures.misses
