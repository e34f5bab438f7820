use Rattle.std.proofs.Common.{refl}
use Rattle.hex.proofs.OnLiterals.{hex_on_literals}
use Rattle.fsoe_crc.specs.Remainder.{computing}
use Rattle.exchange_model.proofs.laws.worked_handshakes.Goals as goal

pub returns : goal.returns
unfolding computing hex_on_literals
returns c = record {
  handshakes = record { first_data = (refl, refl); first_byte = refl; byte_by_byte = refl; longest_sizes = refl; longest_frame = refl; longest_outputs = refl; profile_two_ids = refl; profile_two_data = refl; profile_two_other = refl; number_stepped = refl; not_sent = refl; stops_there = refl; too_old = refl; none_is_0 = refl };
  refusals = record { other_address = refl; long_watchdog = refl; no_parameters = refl; high_parameter = refl; forged_watchdog = (refl, refl); other_word = refl; other_profile = refl; other_profile_later = refl };
}
