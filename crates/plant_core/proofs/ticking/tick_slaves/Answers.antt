use Rattle.std.proofs.Common.{◌≡◌, ◌+◌, suc, arith, ◌∙◌}
use Rattle.plant_core.proofs.Acting.{each_more, next_few}
use Rattle.plant_core.proofs.ticking.tick_slaves.Goals as goal

pub act-requires : goal.act-requires
act-requires g c =
    record { proper = tt; few = next_few _ c.loop-i.i _ _ _ _ _ c.loop-i.invariant.acted c.requires.few (omega arith) c.index_mut.ensures.value }

pub loop-i-preserved : goal.loop-i-preserved
loop-i-preserved g c =
    let number : c.loop-i.i + 1 ≡ suc c.loop-i.i = omega arith in
    record { acted = each_more _ c.loop-i.i _ _ _ _ _ _ _ c.loop-i.invariant.acted (omega arith) c.index_mut.ensures.value (rw number at c.act.ensures.acts); named = c.act.ensures.name_stays ∙ c.loop-i.invariant.named; count = c.loop-i.invariant.count }
