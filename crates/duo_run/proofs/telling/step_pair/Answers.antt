use Rattle.std.proofs.Common.{◌-◌, arith, rules}
use Rattle.duo_run.proofs.Pairs.Fit.{duo_there, one_fits}
use Rattle.duo_run.proofs.Pairs.Stepping.{few_entries, noted_each, one_counted, one_goes, one_unsent}
use Rattle.duo_run.proofs.telling.step_pair.Goals as goal

pub overflow_sub-at : goal.overflow_sub-at
overflow_sub-at c =
    let f = one_fits _ _ _ c.args.pair c.args.event.now _ c.requires in
    omega (arith, f.first, c.from-at.ensures)

pub bounds-duos-at : goal.bounds-duos-at
bounds-duos-at c =
    let f = one_fits _ _ _ c.args.pair c.args.event.now _ c.requires in
    omega (arith, f.first, f.last, c.from-at.ensures)

pub tell-requires : goal.tell-requires
tell-requires c =
    let f = one_fits _ _ _ c.args.pair c.args.event.now _ c.requires in
    let at = duo_there c.args.duos.now c.args.pair (c.from-at.result - 1) c.index-duos-at.result f.first f.last (omega (arith, c.from-at.ensures)) in
    record { fits = f.each _ _ at.0 at.1; fewer = one_counted _ _ _ _ _ _ _ c.requires at.1 }

pub overflow_add-entries : goal.overflow_add-entries
overflow_add-entries c =
    let made = few_entries _ _ _ _ _ c.requires in
    omega (arith, made)

pub note_others-requires : goal.note_others-requires
note_others-requires c = search (rules, noted_each)

pub returns-in-Ok-clause-takes_event : goal.returns-in-Ok-clause-takes_event
returns-in-Ok-clause-takes_event c =
    let f = one_fits _ _ _ c.args.pair c.args.event.now _ c.requires in
    let at = duo_there c.args.duos.now c.args.pair (c.from-at.result - 1) c.index-duos-at.result f.first f.last (omega (arith, c.from-at.ensures)) in
    search (rules, one_goes)

pub returns-in-Err-NoSuchFrame-clause-stopped : goal.returns-in-Err-NoSuchFrame-clause-stopped
returns-in-Err-NoSuchFrame-clause-stopped c = λ h log text stood.
    let f = one_fits _ _ _ c.args.pair c.args.event.now _ c.requires in
    let at = duo_there c.args.duos.now c.args.pair (c.from-at.result - 1) c.index-duos-at.result f.first f.last (omega (arith, c.from-at.ensures)) in
    one_unsent c.args.duos.now c.args.others.now _ c.args.pair _ c.args.event.now _ h log text at.0 at.1 c.in-Err-NoSuchFrame.ensures.misses stood
