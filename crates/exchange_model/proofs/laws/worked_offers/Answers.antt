use Rattle.std.proofs.Common.{refl}
use Rattle.hex.proofs.OnLiterals.{hex_on_literals}
use Rattle.fsoe_crc.specs.Remainder.{computing}
use Rattle.exchange_model.proofs.laws.worked_offers.Goals as goal

pub returns : goal.returns
unfolding computing hex_on_literals
returns c = record {
  slave = record { none_other = refl; own_entries = refl; eight_ticks = refl; shows_load = refl; no_longer = refl };
  master = record { none_other = refl; own_entries = refl; eight_ticks = refl; shows_load = refl; no_longer = refl };
}
