use Rattle.std.proofs.Common.{ap}
use Rattle.slave_core.specs.declared.phase.Phase.TheVariants as phase
use Rattle.slave_core.specs.declared.states.InParameter.{InParameter}
use Rattle.slave_core.proofs.Transits.{enters_first, leaves}
use Rattle.slave_core.proofs.states.InConnection.load.Goals as goal

pub returns : goal.returns
returns c = enters_first phase.Parameter _ _ _ _ _ _ _ _ c.more.ensures (ap (λ (s : InParameter). phase.Parameter s) c.to_parameter.ensures) (leaves _ _ _ c.requires.whole)
