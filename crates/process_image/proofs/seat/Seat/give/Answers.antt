use Rattle.std.proofs.Common.{rules}
use Rattle.process_image.proofs.seat.Seat.give.Goals as goal

pub returns-then-len-self : goal.returns-then-len-self
returns-then-len-self c = search rules
