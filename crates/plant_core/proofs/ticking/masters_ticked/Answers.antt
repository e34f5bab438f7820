use Rattle.plant_core.proofs.Common.{slice_get_read}
use Rattle.std.proofs.Common.{◌≡◌, ◌+◌, suc, refl, arith, ◌∙◌}
use Rattle.plant_core.proofs.Acting.{each_more, next_few}
use Rattle.plant_core.proofs.ticking.masters_ticked.Goals as goal

pub acted-requires : goal.acted-requires
acted-requires g c =
    record { few = next_few _ c.loop-i.i _ _ _ _ _ c.loop-i.invariant.acted c.requires.few (omega arith) c.index_mut.ensures.value }

pub loop-i-preserved : goal.loop-i-preserved
loop-i-preserved g c =
    let number : c.loop-i.i + 1 ≡ suc c.loop-i.i = omega arith in
    let did_at = slice_get_read c.args.dids.now _ c.loop-i.i _ refl (omega arith) c.index-dids-i.is in
    let sent_at = slice_get_read c.args.outs.now _ c.loop-i.i _ refl (omega arith) c.index-outs-i.is in
    record {
      acted = each_more _ c.loop-i.i _ _ _ _ _ _ _ c.loop-i.invariant.acted (omega arith) c.index_mut.ensures.value
          (record { did = c.index-dids-i.result; sent = c.index-outs-i.result; did_at = did_at; sent_at = sent_at; noted = c.acted.ensures.noted; pushed = rw number at c.acted.ensures.pushed });
      named = c.acted.ensures.name_stays ∙ c.loop-i.invariant.named;
      count = c.loop-i.invariant.count;
    }
