use Rattle.node_runner.proofs.Nodes.{node_fits, node_goes_on}
use Rattle.node_runner.proofs.node.NodeMachine.report.Goals as goal
use Rattle.std.proofs.Common.{rules}

pub act-requires-clause-proper : goal.act-requires-clause-proper
act-requires-clause-proper c = rw c.move_of.ensures (node_fits c.requires.0 c.args.self.now.core c.args.event.now c.args.number c.requires.1)

pub returns-clause-takes_event : goal.returns-clause-takes_event
returns-clause-takes_event c =
    let follows = rw c.move_of.ensures at c.act.ensures.follows in
    let answers = rw c.move_of.ensures at c.act.ensures.answers in
    search (rules, node_goes_on)
