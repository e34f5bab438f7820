use Rattle.std.proofs.Common.{ap, refl}
use Rattle.slave_core.specs.declared.phase.Phase.TheVariants as phase
use Rattle.slave_core.specs.declared.states.InSession.{InSession}
use Rattle.slave_core.proofs.Transits.{enters_first}
use Rattle.slave_core.proofs.states.InReset.start.Goals as goal

pub returns : goal.returns
returns c = enters_first phase.Session _ _ _ _ _ _ _ _ c.more.ensures (ap (λ (s : InSession). phase.Session s) c.to_session.ensures.next) refl
