use Rattle.node_runner.proofs.Nodes.{node_ends}
use Rattle.node_runner.proofs.node.NodeMachine.close.Goals as goal
use Rattle.std.proofs.Common.{rules}

pub returns-clause-closes : goal.returns-clause-closes
returns-clause-closes c = search (rules, node_ends)
