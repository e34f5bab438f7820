use Rattle.fsoe_crc.proofs.Adjacent.{rem-adjacent, rem-one}
use Rattle.fsoe_crc.proofs.laws.adjacent_bytes.Goals as goal

pub returns : goal.returns
returns c = record { two = rem-adjacent; one = rem-one }
