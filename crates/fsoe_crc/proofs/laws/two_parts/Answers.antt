use Rattle.fsoe_crc.proofs.TwoParts.{rem-two_parts}
use Rattle.fsoe_crc.proofs.laws.two_parts.Goals as goal

pub returns : goal.returns
returns c = rem-two_parts
