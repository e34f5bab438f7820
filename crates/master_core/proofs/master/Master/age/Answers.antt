use Rattle.master_core.proofs.Common.{MasterView}
use Rattle.std.proofs.Common.{ap, ◌∙◌}
use Rattle.master_core.proofs.ShownDue.{age_zero}
use Rattle.master_core.proofs.master.Master.age.Goals as goal

pub returns-clause-zero_while_due : goal.returns-clause-zero_while_due
returns-clause-zero_while_due c = age_zero c.args.self.now c.age.result (c.age.ensures.value ∙ ap (λ (v : MasterView). v.timer.age) c.self.view_is)
