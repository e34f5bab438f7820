use Rattle.std.proofs.Common.{ap, arith}
use Rattle.slave_core.proofs.Common.{Outcome}
use Rattle.slave_core.proofs.Law.{follows_by, answers_by}
use Rattle.slave_core.proofs.slave.Slave.deliver_into.Goals as goal

pub returns-clause-follows : goal.returns-clause-follows
returns-clause-follows c = follows_by _ _ _ tt (λ i. let fits = c.type_inv.frame i in omega arith) (ap (λ (o : Outcome). o.slave) c.receive.ensures.outcome)

pub returns-clause-answers : goal.returns-clause-answers
returns-clause-answers c = answers_by _ _ _ _ tt (ap (λ (o : Outcome). o.did) c.receive.ensures.outcome) (ap (λ (o : Outcome). o.sent) c.receive.ensures.outcome)
