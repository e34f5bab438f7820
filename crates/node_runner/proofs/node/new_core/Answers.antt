use Rattle.fsoe_base.specs.declared.command.End.TheVariants as side
use Rattle.end_model.specs.Setup.{OfMaster, OfSlave}
use Rattle.node_runner.proofs.Nodes.{begins}
use Rattle.node_runner.proofs.node.new_core.Goals as goal

pub returns-in-Master : goal.returns-in-Master
returns-in-Master c = rw c.in-Master.is (begins side.Master c.new_master.result c.args.header.now (OfMaster c.master.result) c.new_master.ensures.new c.new_master.ensures.setup c.master.ensures)

pub returns-in-Slave : goal.returns-in-Slave
returns-in-Slave c = rw c.in-Slave.is (begins side.Slave c.new_slave.result c.args.header.now (OfSlave c.slave.result) c.new_slave.ensures.new c.new_slave.ensures.setup c.slave.ensures)
