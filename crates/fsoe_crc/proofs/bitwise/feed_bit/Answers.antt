use Rattle.std.proofs.Common.{◌+◌, ◌*◌, arith}
use Rattle.fsoe_crc.proofs.Feeding.{reduced_below}
use Rattle.fsoe_crc.proofs.bitwise.feed_bit.Goals as goal

pub overflow_cast-result-else-doubled-lt65536 : goal.overflow_cast-result-else-doubled-lt65536
overflow_cast-result-else-doubled-lt65536 c = omega (arith, reduced_below (2 * c.args.value + c.args.bit) (omega arith) (omega arith))
