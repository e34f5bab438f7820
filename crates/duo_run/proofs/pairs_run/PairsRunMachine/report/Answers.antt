use Rattle.duo_run.proofs.Common.{take_at}
use Rattle.std.proofs.Common.{◌≡◌, ◌++◌, ℕ, List, length, take, drop, ap, arith, rules}
use Rattle.duo_run.proofs.pairs_run.PairsRunMachine.report.Goals as goal

-- as many elements as there were are written back
written : {X : Type 0} (many : ℕ) (old new : List X) → many ≡ length old → length new ≡ length old → take many (new ++ drop (length new) old) ≡ new
written many old new e d = take_at new (drop (length new) old) many (omega (arith, e, d))

pub returns-in-Tick-clause-takes_event : goal.returns-in-Tick-clause-takes_event
returns-in-Tick-clause-takes_event c =
    let run = c.args.self.now in
    let duos = written run.duos.len run.duos.items c.tick_pairs.new.duos (omega (arith, run.duos.ok.0)) (omega (arith, c.tick_pairs.auto.duos, ap length c.as_mut_slice.ensures.value)) in
    let others = written run.others.len run.others.items c.tick_pairs.new.others (omega (arith, run.others.ok.0)) (omega (arith, c.tick_pairs.auto.others, ap length c.as_mut_slice-in-Tick.ensures.value)) in
    rw (duos, others) (search rules)

pub returns-in-One-clause-takes_event : goal.returns-in-One-clause-takes_event
returns-in-One-clause-takes_event c =
    let run = c.args.self.now in
    let duos = written run.duos.len run.duos.items c.step_pair.new.duos (omega (arith, run.duos.ok.0)) (omega (arith, c.step_pair.auto.duos, ap length c.as_mut_slice-in-One.ensures.value)) in
    let others = written run.others.len run.others.items c.step_pair.new.others (omega (arith, run.others.ok.0)) (omega (arith, c.step_pair.auto.others, ap length c.as_mut_slice-in-One-2.ensures.value)) in
    rw (duos, others) (search rules)
