use Rattle.std.proofs.Common.{ap}
use Rattle.slave_core.specs.declared.phase.Phase.TheVariants as phase
use Rattle.slave_core.specs.declared.states.InData.{InData}
use Rattle.slave_core.proofs.Transits.{enters_first, leaves}
use Rattle.slave_core.proofs.states.InParameter.run.Goals as goal

pub returns : goal.returns
returns c = enters_first phase.Data _ _ _ _ _ _ _ _ c.more.ensures (ap (λ (s : InData). phase.Data s) c.to_data.ensures.next) (leaves _ _ _ c.requires.whole)
