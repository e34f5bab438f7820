use Rattle.node_runner.proofs.OneReport.{one_report, some_report}
use Rattle.node_runner.proofs.laws.one_report.Goals as goal

pub returns-clause-some : goal.returns-clause-some
returns-clause-some c = some_report

pub returns-clause-only : goal.returns-clause-only
returns-clause-only c = one_report
