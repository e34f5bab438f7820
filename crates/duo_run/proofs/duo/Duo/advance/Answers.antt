use Rattle.std.proofs.Common.{rules}
use Rattle.duo_run.proofs.Pair.Moved.{master_proper, slave_proper}
use Rattle.duo_run.proofs.Pair.Stepped.{master_advances, misses_by, slave_advances}
use Rattle.duo_run.proofs.duo.Duo.advance.Goals as goal

pub act-requires-clause-proper : goal.act-requires-clause-proper
act-requires-clause-proper c = rw c.move_at.ensures (search (rules, master_proper))

pub act-requires-in-Slave : goal.act-requires-in-Slave
act-requires-in-Slave c = rw c.move_at-in-Slave.ensures (search (rules, slave_proper))

pub returns-in_ok-came-in-Master-clause-advances : goal.returns-in_ok-came-in-Master-clause-advances
returns-in_ok-came-in-Master-clause-advances c =
    let follows = rw c.move_at.ensures at c.act.ensures.follows in
    let answers = rw c.move_at.ensures at c.act.ensures.answers in
    search (rules, master_advances)

pub returns-in_ok-came-in-Slave-clause-advances : goal.returns-in_ok-came-in-Slave-clause-advances
returns-in_ok-came-in-Slave-clause-advances c =
    let follows = rw c.move_at-in-Slave.ensures at c.act-in-Slave.ensures.follows in
    let answers = rw c.move_at-in-Slave.ensures at c.act-in-Slave.ensures.answers in
    search (rules, slave_advances)

pub returns-in_err-came-in-Master-clause-misses : goal.returns-in_err-came-in-Master-clause-misses
returns-in_err-came-in-Master-clause-misses c = search (rules, misses_by)

pub returns-in_err-came-in-Slave-clause-misses : goal.returns-in_err-came-in-Slave-clause-misses
returns-in_err-came-in-Slave-clause-misses c = search (rules, misses_by)
