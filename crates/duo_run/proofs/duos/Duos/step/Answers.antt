use Rattle.duo_run.proofs.Common.{Some, numbered}
use Rattle.std.proofs.Common.{◌≡◌, ◌-◌, ℕ, length, refl, ap, arith}
use Rattle.duo_run.proofs.Pairs.At.{at_number, named, others_stay, set_at, with_both}
use Rattle.duo_run.proofs.duos.Duos.step.Goals as goal

pub step-requires : goal.step-requires
step-requires c =
    let at : numbered c.args.pair c.args.self.now ≡ Some c.index_mut.result.now =
    at_number c.self.inside.pairs.items _ _ (c.from.result - 1) _ c.self.view_is (omega arith) c.requires.first c.requires.last c.index_mut.ensures.value
    in
    record { fits = rw at at c.requires.fits; fewer = rw at at c.requires.fewer }

pub returns-clause-steps : goal.returns-clause-steps
returns-clause-steps c =
    let place : ℕ = c.from.result - 1 in
    let at : numbered c.args.pair c.args.self.now ≡ Some c.index_mut.result.now =
    at_number c.self.inside.pairs.items _ _ place _ c.self.view_is (omega arith) c.requires.first c.requires.last c.index_mut.ensures.value
    in
    with_both c.step.result _ _ _ c.step.ensures.steps c.step.ensures.done
    (λ x steps counts.
    record {
      before = c.index_mut.result.now;
      after = c.step.new.self;
      was = at;
      is = named _ place _ _ (omega arith) (set_at c.self.inside.pairs.items place c.step.new.self (omega (arith, ap length c.self.view_is)));
      steps = steps;
      counts = counts;
      lengths = c.step.ensures.lengths;
      profiles = c.step.ensures.profiles;
    })

pub returns-clause-misses : goal.returns-clause-misses
returns-clause-misses c =
    let at : numbered c.args.pair c.args.self.now ≡ Some c.index_mut.result.now =
    at_number c.self.inside.pairs.items _ _ (c.from.result - 1) _ c.self.view_is (omega arith) c.requires.first c.requires.last c.index_mut.ensures.value
    in
    rw at c.step.ensures.misses

pub returns-clause-others : goal.returns-clause-others
returns-clause-others c = λ other no.
    rw (← c.self.view_is) (others_stay c.args.pair (c.from.result - 1) other c.self.inside.pairs.items _ c.step.new.self (omega arith) refl no)
