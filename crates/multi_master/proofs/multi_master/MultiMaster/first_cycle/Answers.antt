use Rattle.std.proofs.Common.{rules}
use Rattle.multi_master.proofs.Following.{change_follows}
use Rattle.multi_master.proofs.Keeping.{all_rest}
use Rattle.multi_master.proofs.multi_master.MultiMaster.first_cycle.Goals as goal

pub invariant_of-self : goal.invariant_of-self
invariant_of-self c = search (rules, all_rest)

pub returns-clause-follows : goal.returns-clause-follows
returns-clause-follows g c = λ other. rw (← c.self.view_is) (change_follows _ _ _ c.run_cycle.ensures.inputs c.run_cycle.ensures.runs)
