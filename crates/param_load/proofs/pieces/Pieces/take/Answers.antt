use Rattle.std.proofs.Common.{arith}
use Rattle.param_load.proofs.Watchdog.{joined_watchdog}
use Rattle.param_load.proofs.pieces.Pieces.take.Goals as goal

pub invariant_of-self-2 : goal.invariant_of-self-2
invariant_of-self-2 c = grind (arith, joined_watchdog)
