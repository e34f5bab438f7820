use Rattle.trace_diag.proofs.Common.{MasterSettings, SlaveSettings, ltb-true}
use Rattle.std.proofs.Common.{refl}
use Rattle.hex.proofs.OnLiterals.{hex_on_literals}
use Rattle.fsoe_crc.specs.Remainder.{computing}
use Rattle.end_model.specs.WorkedRuns.{master_values, slave_values}
use Rattle.trace_diag.proofs.laws.worked_traces.Goals as goal

-- the settings that are read off the whole trace, and off its first six frames, where neither the address nor the
-- parameters have come; off no frame the session ids are 0, too
abbrev whole_slave : SlaveSettings
whole_slave = record slave_values { hand = 65535; most = 65535; some_hand = ltb-true 0 65535 refl; some_most = ltb-true 0 65535 refl }

abbrev six_master : MasterSettings
six_master = record master_values { address = 0; watchdog = 256; some_watchdog = ltb-true 0 256 refl }

abbrev six_slave : SlaveSettings
six_slave = record whole_slave { address = 0 }

pub returns : goal.returns
unfolding computing hex_on_literals
returns c = record {
  conforms = record { lengths_hold = refl; ms = master_values; ss = whole_slave; settings = record { master = record { lengths_are = refl; conn_is = refl; address_is = refl; watchdog_is = refl; app_is = refl; nonce_is = refl; profile_is = refl }; slave = record { lengths_are = refl; address_is = refl; hand_is = refl; most_is = refl; rule_is = refl; nonce_is = refl; profile_is = refl } }; sends = refl };
  settings = refl;
  none_conform = record { lengths_hold = refl; ms = record six_master { nonce = 0; allowed = refl }; ss = record six_slave { nonce = 0; allowed = refl }; settings = record { master = record { lengths_are = refl; conn_is = refl; address_is = refl; watchdog_is = refl; app_is = refl; nonce_is = refl; profile_is = refl }; slave = record { lengths_are = refl; address_is = refl; hand_is = refl; most_is = refl; rule_is = refl; nonce_is = refl; profile_is = refl } }; sends = refl };
  none_told = refl;
  six_conform = record { lengths_hold = refl; ms = six_master; ss = six_slave; settings = record { master = record { lengths_are = refl; conn_is = refl; address_is = refl; watchdog_is = refl; app_is = refl; nonce_is = refl; profile_is = refl }; slave = record { lengths_are = refl; address_is = refl; hand_is = refl; most_is = refl; rule_is = refl; nonce_is = refl; profile_is = refl } }; sends = refl };
  six_told = refl;
  altered = (refl, refl, refl, refl);
  lock_step = (refl, refl, refl, refl, refl, refl, refl, refl, refl);
  rows = (refl, refl, refl, refl, refl, refl, refl, refl, refl, refl, refl, refl, refl, refl, refl, refl, refl);
  short_frame = refl;
  other_lengths = refl;
  lowest_bit = refl;
  highest_bit = refl;
  later_groups = (refl, refl, refl, refl, refl, refl, refl);
  cut_words = (refl, refl, refl, refl);
  stepped_number = (refl, refl);
}
