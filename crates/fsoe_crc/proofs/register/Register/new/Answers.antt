use Rattle.std.proofs.Common.{refl}
use Rattle.fsoe_crc.specs.Remainder.{rem, sixteen_zeros, fed}
use Rattle.fsoe_crc.proofs.register.Register.new.Goals as goal

pub returns : goal.returns
unfolding rem sixteen_zeros fed
returns c = refl
