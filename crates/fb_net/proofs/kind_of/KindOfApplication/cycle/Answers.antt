use Rattle.fb_net.proofs.kind_of.KindOfApplication.cycle.Goals as goal

pub returns-in-Handed-clause-guarded : goal.returns-in-Handed-clause-guarded
returns-in-Handed-clause-guarded g c = rw c.in-Handed.is c.cycle-in-Handed.ensures.guarded
