use Rattle.trace_diag.proofs.Common.{ends_one, judge_reporting}
use Rattle.trace_diag.proofs.Inputs.{close_ends, close_whole}
use Rattle.trace_diag.proofs.diagnosis.DiagnosisMachine.close.Goals as goal

pub returns-clause-closes : goal.returns-clause-closes
returns-clause-closes c = λ first h log text count k.
    ends_one judge_reporting h log text c.write_verdict.new.text c.write_verdict.result
    (close_ends c.args.self.now.trace h log text c.write_verdict.new.text c.args.events c.verdict.result c.write_verdict.result count k c.verdict.ensures c.write_verdict.ensures.text c.write_verdict.ensures.ended)

pub returns-clause-ends : goal.returns-clause-ends
returns-clause-ends c = λ first h log text k. close_whole c.args.self.now.trace h log text c.verdict.result c.write_verdict.result k c.verdict.ensures c.write_verdict.ensures.ended
