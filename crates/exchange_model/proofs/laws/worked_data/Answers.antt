use Rattle.std.proofs.Common.{refl}
use Rattle.hex.proofs.OnLiterals.{hex_on_literals}
use Rattle.fsoe_crc.specs.Remainder.{computing}
use Rattle.exchange_model.proofs.laws.worked_data.Goals as goal

pub returns : goal.returns
unfolding computing hex_on_literals
returns c = record { repeated = refl; age_goes_on = refl; whole_groups = refl; altered_group = (refl, refl); old_data = (refl, refl); watchdog_sent = refl; goes_to_data = refl; expires = refl; answer_under_way = (refl, refl); old_session = (refl, refl); forged_data = (refl, refl); held_slave = refl; old_connection = (refl, refl); equal_ids = (refl, refl); fresh_id = (refl, refl) }
