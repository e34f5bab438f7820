use Rattle.std.proofs.Common.{refl}
use Rattle.fsoe_io.proofs.Passing.{loses_part}
use Rattle.fsoe_io.proofs.output.Output.flush.Goals as goal

pub returns-in-Err-clause-puts : goal.returns-in-Err-clause-puts
returns-in-Err-clause-puts g c =
    rw (← c.self.view_is) (loses_part _ _ _ _ c.in-Err.partial.done c.in-Err.ensures.partial refl c.in-Err.ensures.bytes)
