use Rattle.fsoe_io.proofs.Passing.{puts_then}
use Rattle.fsoe_io.proofs.output.Output.finish.Goals as goal

pub returns-clause-puts : goal.returns-clause-puts
returns-clause-puts g c = puts_then _ _ _ _ _ _ _ _ c.in_ok-put.ensures.puts c.flush.ensures.puts
