-- `is_null` compares the place's pointer with null.
use Rattle.c_values.proofs.Steps.{◌^◌, [], ◌∷◌, refl, sym, proved, ftrue, flft, named, Val, vbool, tables, ‵, ◌⊛◌, ◌$◌, ◌∵◌, !, qed, done, move, keep, split, join, fsplit, fsplit3, fjoin, feq_i, rewrite, suffices, frame, group, enter, of_opd, bin, lit, load, stop, fld, returns, alloc_all, pass_all, free_all, look_at, get, is, through, sets, whole, sub, look_in, shows, cell_at, full_share, List, count_of, flt_i, flt_l, null_test, tests_null, typed_ptr, MutRef, mut_vals, mut_Tells, plain, nothing, opens, closes, peeks, Stays, walk_of, stay_ref, Goes-ref, ends_at, says}
use Rattle.std.specs.Prelude.{not}
use Rattle.c_values.specs.Place.{has_memory}
use Rattle.controller_c.specs.contracts.controller_place.ControllerPlace.is_null as f
use Rattle.controller_c.proofs.controller_place.ControllerPlace.is_null.Statement.{statement}
use Rattle.controller_c.proofs.controller_place.ControllerPlace.is_null.Code as code
use Rattle.controller_c.specs.contracts.controller_place.ControllerPlace.{the_row as R}
use Rattle.controller_c.proofs.controller_place.ControllerPlace.TheLaws.{lowers}

abbrev stayed : Stays f.ended.signature.params f.ended.kept
stayed = (stay_ref (0 ∷ []) tt (plain (λ _. R)), tt)

pub is_null_spec : {M : Type 1} → statement M
is_null_spec 𝓤 𝓛 𝓜 𝓡 wired =
    let c = f.clauses 𝓛 𝓜.mem 𝓡.returns in let W = walk_of 𝓛 f.ended stayed c in let 𝓣 = tables 𝓤 𝓛.H 𝓜 𝓡 𝓡.env in
    proved 𝓛 f.ended stayed c 𝓜 𝓡 (Goes-ref 𝓛 1 0 tt (plain (λ _. R)), tt)
    f.Key.name code.function (code.unfolded 𝓤 𝓛.H 𝓜 𝓡 wired)
    (λ κs. (mut_vals, tt)) (λ κs. (mut_Tells (named 0) κs.0 R, tt)) (λ κs qs bounds a _ are.
    let b = a.0.ref_ptr.0 in let o = a.0.ref_ptr.1 in let h = a.0.now in let vs = mut_vals a.0 in
    let y : W.Ghost = ((κs, qs, bounds, a, (vs, tt)), tt) in
    qed 𝓛 (((‵ (flft κs.0 qs.0) ⊛ ‵ ftrue) ⊛ ‵ ((MutRef (named 0) κs.0 R).own_val a.0 vs) ⊛ ‵ ftrue) ∷ ‵ ftrue ∷ []) ∵
    split ! $ split ! $ move ! (2 ∷ []) $ split ! $ keep ! (0 ∷ 2 ∷ []) $
    enter ! _ _ _ _ _ $ alloc_all ! (λ l. pass_all ! refl ((tt, tt), tt) $
    fsplit3 ! $ move ! (1 ∷ 2 ∷ 3 ∷ []) $ opens ! tt R b o (λ us.
    move ! (1 ∷ []) $ peeks ! R _ (shows 𝓛 R) h us (λ is_word. fsplit ! $ move ! (1 ∷ []) $ fsplit ! $ flt_l ! (λ near.
    let word = lowers.val_is h us is_word in
    let Cell = λ (ws : List Val). ‵ (cell_at full_share R.mir ws b o) in
    rewrite ! 2 Cell word refl $
    -- [the memory; what the fields own; the struct's cell; the open borrow, in three entries]
    sets ! (of_opd ! (load ! (through ! refl (fld ! refl (stop !))) (look_in ! 2 (sub ! 0 refl (whole !))))) refl (typed_ptr h.at) $
    sets ! (is ! (bin ! (get ! refl) (lit ! tt) (tests_null h.at near)) (null_test h.at)) refl (tt, tt) $
    rewrite ! 2 Cell (sym word) refl $ flt_i ! (count_of h.at) (2 ^ 63) near $ fjoin ! $ move ! (1 ∷ []) $ fjoin ! $ move ! (1 ∷ []) $ closes ! tt R h us b o $
    returns ! (look_at ! 0 refl) $ free_all ! refl $ move ! (3 ∷ []) $
    suffices ! _ (ends_at 𝓛 f.ended stayed c y (vbool (not (has_memory h.at))) (not (has_memory h.at)) (h, tt) (tt, tt)) $ says ! (refl, refl) $
    group ! 3 $ nothing ! $ move ! (1 ∷ 0 ∷ []) $ join ! $ nothing ! $ move ! (2 ∷ 0 ∷ []) $ join ! $ frame ! $ frame ! $
    feq_i ! _ (vbool (not (has_memory h.at)) ∷ []) _ refl $ done !)))))
