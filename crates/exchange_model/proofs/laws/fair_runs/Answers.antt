use Rattle.exchange_model.proofs.Common.{AllByRecursion, Event, IsProperEvent, MasterSettings, NoOther, SameLengths, SlaveSettings, Took, world}
use Rattle.std.proofs.Common.{◌≡◌, ℕ, zero, suc, nat_eq, List, [], ◌∷◌, ◌++◌, get_or, true, false, Option, Some, None, All, codes, refl, ap, arith}
use Rattle.std.proofs.lemmas.List.Elements.{All-from_recursion}
use Rattle.hex.proofs.OnLiterals.{hex_on_literals}
use Rattle.fsoe_crc.specs.Remainder.{computing}
use Rattle.end_model.specs.WorkedRuns.{slave_values}
use Rattle.exchange_model.specs.Schedules.{master_values, dm, ds, hs, rounds, rs, tm, until_data, zs}
use Rattle.exchange_model.specs.WorkedRuns.{master_of_two, slave_of_two}
use Rattle.exchange_model.proofs.Fairness.Headline.{fair_before, fair_run}
use Rattle.exchange_model.proofs.laws.fair_runs.Goals as goal

after-rounds : (ms : MasterSettings) (ss : SlaveSettings) (n : ℕ) (more : List Event) → AllByRecursion (IsProperEvent ms ss) more → AllByRecursion (IsProperEvent ms ss) (rounds n ++ more)
after-rounds ms ss zero more p = p
after-rounds ms ss (suc n) more p = (tt, (tt, after-rounds ms ss n more p))

-- the events until the first data of both ends are proper, and so are all with these after them
until-data : (more : List Event) → AllByRecursion (IsProperEvent master_values slave_values) more → All (IsProperEvent master_values slave_values) (until_data ++ more)
unfolding hex_on_literals
until-data more p = All-from_recursion (IsProperEvent master_values slave_values) (until_data ++ more) (refl, (refl, (tt, after-rounds master_values slave_values 8 more p)))

abbrev first_byte : Option Took → ℕ
first_byte None = 0
first_byte (Some t) = get_or t.load 0 0

differ : (a b : ℕ) → nat_eq a b ≡ false → a ≡ b → ⊥
differ a b h k = grind arith

pub returns : goal.returns
unfolding computing hex_on_literals
returns c =
    let same : SameLengths master_values slave_values = record { master = refl; slave = refl } in
    let fair = λ (more : List Event) (p : AllByRecursion (IsProperEvent master_values slave_values) more) (none : NoOther (world master_values slave_values (until_data ++ more))). fair_run master_values slave_values (until_data ++ more) same (until-data more p) none in
    let before = λ (more : List Event) (p : AllByRecursion (IsProperEvent master_values slave_values) more). fair_before master_values slave_values (until_data ++ more) same (until-data more p) in
    let of_two : All (IsProperEvent master_of_two (slave_of_two 7)) (tm ∷ rounds 9 ++ ds 1 ∷ []) = All-from_recursion (IsProperEvent master_of_two (slave_of_two 7)) (tm ∷ rounds 9 ++ ds 1 ∷ []) (tt, after-rounds master_of_two (slave_of_two 7) 9 (ds 1 ∷ []) (tt, tt)) in
    record {
      first_data = fair [] tt refl;
      answer_under_way = fair (ds 1 ∷ zs ∷ dm 2 ∷ dm 1 ∷ []) (tt, (tt, (tt, (tt, tt)))) refl;
      old_session = fair (zs ∷ ds 8 ∷ ds 1 ∷ []) (tt, (tt, (tt, tt))) refl;
      held_slave = fair (hs true ∷ ds 1 ∷ dm 1 ∷ []) (tt, (tt, (tt, tt))) refl;
      profile_two = fair_run master_of_two (slave_of_two 7) (tm ∷ rounds 9 ++ ds 1 ∷ []) (record { master = refl; slave = refl }) of_two refl;
      before_forged = (refl, before (rs (codes "36ff004ee90100") ∷ []) (tt, tt));
      with_forged = λ h. differ 1 255 refl (ap first_byte h.from_awaited.0.same_load);
      before_old = (refl, before (zs ∷ ds 8 ∷ ds 7 ∷ []) (tt, (tt, (tt, tt))));
    }
