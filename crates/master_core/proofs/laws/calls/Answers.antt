use Rattle.master_core.proofs.Calls.{calls_end, calls_wait}
use Rattle.master_core.proofs.laws.calls.Goals as goal

pub returns-clause-is_after : goal.returns-clause-is_after
returns-clause-is_after c = calls_end

pub returns-clause-waits : goal.returns-clause-waits
returns-clause-waits c = calls_wait
