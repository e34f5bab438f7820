use Rattle.duo_run.proofs.Common.{DuoStands, DuoView, None, Some, first_of_both, is_some, same_Some, slice_get-get_or, slice_get_read}
use Rattle.duo_run.specs.PairsStanding.{Notes}
use Rattle.std.proofs.Common.{◌≡◌, ℕ, Option, length, slice_get, slice_index_or, refl, ap, sym, subst, ◌∙◌, arith}
use Rattle.duo_run.proofs.Pairs.At.{set_more}
use Rattle.duo_run.proofs.Pairs.Noted.{noted_all}
use Rattle.duo_run.proofs.telling.note_others.Goals as goal

pub returns : goal.returns
returns c = noted_all _ c.loop-i.i _ _ _ (omega (arith, c.requires)) c.loop-i.invariant

pub loop-i-preserved : goal.loop-i-preserved
loop-i-preserved c =
    let i : ℕ = c.loop-i.i in
    let own : DuoView = c.index-duos-i.result in
    let own-at : slice_get c.args.duos.now i ≡ Some own = slice_get_read c.args.duos.now _ i own refl (omega arith) c.index-duos-i.is in
    let long : length c.loop-i.others ≡ length c.args.others.now = c.loop-i.invariant.many in
    let before : Option ℕ = slice_index_or c.loop-i.others i None in
    set_more (Notes c.args.number c.args.duos.now) i _ c.loop-i.others before c.noted.result c.loop-i.invariant (slice_get-get_or c.loop-i.others i None (omega (arith, long, c.requires)))
    (λ v ms ss w v-at stands.
    let same : v ≡ own = same_Some _ _ (sym v-at ∙ own-at) in
    c.noted.ensures ∙ ap (λ (o : Option ℕ). first_of_both before (is_some o) c.args.number) (c.other.ensures ms ss w (subst (λ (v : DuoView). DuoStands ms ss v w) same stands)))
