use Rattle.std.proofs.Common.{ap, arith}
use Rattle.master_core.proofs.Common.{Accepted}
use Rattle.master_core.proofs.Waiting.{accepts_by}
use Rattle.master_core.proofs.master.Master.accept_into.Goals as goal

pub returns-clause-accepts : goal.returns-clause-accepts
returns-clause-accepts c = accepts_by _ _ _ _ (λ i. let fits = c.type_inv.frame i in omega arith) (ap (λ (a : Accepted). a.master) c.receive.ensures.accepted) (ap (λ (a : Accepted). a.did) c.receive.ensures.accepted) c.receive.ensures.unsent
