use Rattle.std.proofs.Common.{ap, ◌∙◌, ℕ}
use Rattle.slave_core.specs.declared.phase.Phase.TheVariants as phase
use Rattle.slave_core.specs.declared.states.InConnection.{InConnection}
use Rattle.slave_core.specs.States.{connecting}
use Rattle.slave_core.proofs.Transits.{enters_first, leaves}
use Rattle.slave_core.proofs.states.InSession.connect.Goals as goal

pub returns : goal.returns
returns c = enters_first phase.Connection _ _ _ _ _ _ _ _ c.more.ensures (ap (λ (s : InConnection). phase.Connection s) (c.to_connection-begun.ensures ∙ ap (λ (k : ℕ). connecting c.args.kit.now c.args.self k) c.conn.ensures)) (leaves _ _ _ c.requires.whole)
