use Rattle.slave_core.proofs.Law.{called_is_after}
use Rattle.slave_core.proofs.laws.calls.Goals as goal

pub returns-clause-is_after : goal.returns-clause-is_after
returns-clause-is_after c = called_is_after
