use Rattle.exchange_model.proofs.Common.{leb-true}
use Rattle.std.proofs.Common.{refl, arith}
use Rattle.hex.proofs.OnLiterals.{hex_on_literals}
use Rattle.fsoe_crc.specs.Remainder.{computing}
use Rattle.exchange_model.proofs.laws.honest_runs.Goals as goal

pub returns : goal.returns
unfolding computing hex_on_literals
returns c = record {
  steady = record {
    steady = record { plain = refl; begun = refl; asked = refl; time = refl };
    not_in_turn = refl;
    not_asked = refl;
    answered = refl;
    reaches_data = (refl, refl, refl, refl, refl, refl, refl);
  };
  honest = record {
    settings_match = record { same_lengths = record { master = refl; slave = refl }; same_address = refl; same_profile = refl; watchdog_accepted = leb-true 100 1000 refl; as_many_parameters = refl; parameters_allowed = refl };
    honest = record { steady = record { plain = refl; begun = refl; asked = refl; time = refl }; turns = refl };
    ticks = (refl, refl, refl, refl, refl, refl);
    exchanges_are = (refl, refl, refl, refl);
    reaches_data = (refl, refl, refl, refl, refl, refl);
  };
  dishonest = record {
    mismatches = (
      λ m. let other = m.same_lengths.master in cc,
      λ m. let other = m.same_lengths.slave in cc,
      λ m. let other = m.same_address in cc,
      λ m. let other = m.same_profile in cc,
      λ m. let other = m.watchdog_accepted in omega (arith, other),
      λ m. let other = m.as_many_parameters in cc,
      λ m. let other = m.parameters_allowed in cc,
    );
    not_plain = (refl, refl, refl, refl);
    out_of_turn = (refl, refl);
    ticked_late = (refl, refl, refl);
  };
}
