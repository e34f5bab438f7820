use Rattle.plant_run.proofs.Common.{HasRoom, Watched, slice_get-get_or}
use Rattle.std.proofs.Common.{◌≡◌, All, Some, length, slice_get, slice_index_or, refl, sym, ap, subst, ◌∙◌, arith}
use Rattle.multi_master.proofs.Keeping.{written_back}
use Rattle.multi_master.proofs.Places.{all_at}
use Rattle.plant_run.proofs.Hearing.{heard_all, heard_more}
use Rattle.plant_run.proofs.watching.hear.Goals as goal

pub loop-i-init : goal.loop-i-init
loop-i-init g c = record { heard = tt; rest = λ k late. refl }

pub hear_one-requires : goal.hear_one-requires
hear_one-requires g c =
    let w : Watched = slice_index_or c.loop-i.all c.loop-i.i c.index-all-i.result in
    let at : slice_get c.loop-i.all c.loop-i.i ≡ Some w = slice_get-get_or c.loop-i.all c.loop-i.i c.index-all-i.result (omega arith) in
    all_at HasRoom c.as_mut_slice-all.result.now c.loop-i.i w (subst (All HasRoom) (sym c.as_mut_slice-all.ensures.value) c.requires) (sym (c.loop-i.invariant.rest c.loop-i.i (omega arith)) ∙ at)

pub loop-i-preserved : goal.loop-i-preserved
loop-i-preserved g c =
    let w : Watched = slice_index_or c.loop-i.all c.loop-i.i c.index-all-i.result in
    heard_more _ c.loop-i.i c.as_mut_slice-all.result.now c.loop-i.all w c.hear_one.new.watched c.loop-i.invariant (slice_get-get_or c.loop-i.all c.loop-i.i c.index-all-i.result (omega arith)) c.hear_one.ensures

pub returns : goal.returns
returns g c =
    let count : length c.loop-i.all ≡ length c.args.watched.now.items = c.loop-i.auto.all ∙ ap length c.as_mut_slice-all.ensures.value in
    let hears = heard_all _ c.loop-i.i c.as_mut_slice-all.result.now c.loop-i.all (omega arith) (omega arith) c.loop-i.invariant in
    rw (written_back c.loop-i.all c.args.watched.now.items c.args.watched.now.len (omega arith) count) (rw c.as_mut_slice-all.ensures.value at hears)
