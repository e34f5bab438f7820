use Rattle.std.proofs.Common.{refl}
use Rattle.node_runner.proofs.Nodes.{node_so_far}
use Rattle.node_runner.proofs.OneReport.{some_report}
use Rattle.node_runner.proofs.node.NodeMachine.laws.Goals as goal

pub returns-clause-some : goal.returns-clause-some
returns-clause-some c = λ end bytes. let report = some_report end bytes in (report.0, _, (report.1, refl))

pub returns-clause-so_far : goal.returns-clause-so_far
returns-clause-so_far c = λ end v now h log text k. node_so_far end v.core h log text k
