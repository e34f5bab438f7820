use Rattle.std.proofs.Common.{◌+◌, ◌*◌, ℕ, length, ap, sym, ◌∙◌, arith}
use Rattle.duo_run.proofs.Pairs.Stepping.{can_step, can_step_on, few_duos, few_entries, noted_each, tick_goes}
use Rattle.duo_run.proofs.telling.tick_pairs.Goals as goal

pub tick_all-requires-clause-stand : goal.tick_all-requires-clause-stand
tick_all-requires-clause-stand c = can_step _ _ _ _ _ c.requires.come

pub tick_all-requires-clause-few : goal.tick_all-requires-clause-few
tick_all-requires-clause-few c = few_duos _ _ _ _ _ c.requires.come

pub tick_all-requires-clause-room : goal.tick_all-requires-clause-room
tick_all-requires-clause-room c =
    let few = few_duos _ _ _ _ _ c.requires.come in
    let none = ap (length {A = ℕ}) c.requires.empty in
    omega (arith, few, none)

pub tick_all-requires-2-clause-stand : goal.tick_all-requires-2-clause-stand
tick_all-requires-2-clause-stand c = can_step_on _ _ _ _ _ _ _ _ c.requires.come c.tick_all.ensures.ticks

pub tick_all-requires-2-clause-few : goal.tick_all-requires-2-clause-few
tick_all-requires-2-clause-few c = let few = few_duos _ _ _ _ _ c.requires.come in omega (arith, few, c.tick_all.auto.duos)

pub tick_all-requires-2-clause-room : goal.tick_all-requires-2-clause-room
tick_all-requires-2-clause-room c =
    let few = few_duos _ _ _ _ _ c.requires.come in
    let none = ap (length {A = ℕ}) c.requires.empty in
    omega (arith, few, none, c.tick_all.auto.duos, c.tick_all.ensures.room)

pub overflow_add-entries : goal.overflow_add-entries
overflow_add-entries c =
    let few = few_duos _ _ _ _ _ c.requires.come in
    let made = few_entries _ _ _ _ _ c.requires.come in
    omega (arith, few, made, c.tick_all.auto.duos, c.tick_all-2.auto.duos)

pub note_others-requires : goal.note_others-requires
note_others-requires c = noted_each _ _ _ _ _ c.requires.come ∙ sym (c.tick_all-2.auto.duos ∙ c.tick_all.auto.duos)

pub returns : goal.returns
returns c = record {
  takes = λ h log text n stood.
      let first = rw c.requires.empty at c.tick_all.ensures.ticks in
      tick_goes c.args.duos.now c.tick_all.new.duos c.tick_all-2.new.duos c.args.others.now _ _ _ c.args.number _ _ h log text first c.tick_all-2.ensures.ticks c.note_others.ensures (ap (λ (m : ℕ). c.args.entries.now + 2 * m) (c.tick_all-2.auto.duos ∙ c.tick_all.auto.duos)) n stood;
}
