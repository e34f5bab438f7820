use Rattle.std.proofs.Common.{refl}
use Rattle.hex.proofs.OnLiterals.{hex_on_literals}
use Rattle.fsoe_crc.specs.Remainder.{computing}
use Rattle.exchange_model.proofs.laws.worked_items.Goals as goal

pub returns : goal.returns
unfolding computing hex_on_literals
returns c = record { numbers = refl; answering = (refl, refl); answering_late = (refl, refl); carrying = (refl, refl, refl, refl, refl, refl); awaiting = (refl, refl, refl, refl, refl, refl, refl); taking = (refl, refl) }
