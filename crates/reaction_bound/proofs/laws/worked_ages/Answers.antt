use Rattle.std.proofs.Common.{refl}
use Rattle.hex.proofs.OnLiterals.{hex_on_literals}
use Rattle.fsoe_crc.specs.Remainder.{computing}
use Rattle.reaction_bound.proofs.laws.worked_ages.Goals as goal

pub returns : goal.returns
unfolding computing hex_on_literals
returns c = record {
  slave = record { none_other = refl; oldest = refl; worst = refl; no_older = refl };
  master = record { none_other = refl; oldest = refl; worst = refl; no_older = refl };
  forged = refl;
}
