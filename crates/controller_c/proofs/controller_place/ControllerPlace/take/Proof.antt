-- `take` moves the controller out, and makes its memory room again.
use Rattle.c_values.proofs.Steps.{◌^◌, flt_l, flt_i, count_of, List, [], ◌∷◌, refl, sym, ap, ◌∙◌, Option, None, IsSome, proved, full_share, id⊢, ftrue, fat, flft, froom, Ty, named, Val, fact, tables, ‵, raw, ◌⊛◌, some, at_ret, ◌$◌, ◌∵◌, !, qed, done, move, keep, use1, split, join, pick, fsplit, fsplit3, fjoin, rewrite, suffices, frame, group, enter, of_opd, load, stop, fld, first, blocks, exec, returns, alloc_all, pass_all, free_all, look_at, get, through, sets, sets_last, env, whole, sub, look_in, part_out, lone, shows, cell_at, Ptr, lies_at, in_a_block, MutRef, mut_vals, mut_Tells, plain, nothing, opens, closes, peeks, heard, Stays, walk_of, stay_ref, Goes-ref, ends_at, says, after, found}
use types.Run.{look, well_typed}
use Rattle.controller_c.specs.contracts.controller_room.ControllerRoom.{the_row as F}
use Rattle.c_values.specs.Place.{memory_at}
use Rattle.controller_c.specs.contracts.controller_place.ControllerPlace.take as f
use Rattle.controller_c.proofs.controller_place.ControllerPlace.take.Statement.{statement}
use Rattle.controller_c.proofs.controller_place.ControllerPlace.take.Code as code
use Rattle.controller_c.specs.contracts.controller_place.ControllerPlace.{the_row as R}
use Rattle.controller_c.proofs.controller_place.ControllerPlace.TheLaws.{lowers}

abbrev stayed : Stays f.ended.signature.params f.ended.kept
stayed = (stay_ref (0 ∷ []) tt (plain (λ _. R)), tt)

abbrev τ : Ty
τ = lone F.mir

pub take_spec : {M : Type 1} → statement M
take_spec 𝓤 𝓛 𝓜 𝓡 wired =
    let c = f.clauses 𝓛 𝓜.mem 𝓡.returns in let W = walk_of 𝓛 f.ended stayed c in let 𝓣 = tables 𝓤 𝓛.H 𝓜 𝓡 𝓡.env in
    proved 𝓛 f.ended stayed c 𝓜 𝓡 (Goes-ref 𝓛 1 0 tt (plain (λ _. R)), tt)
    f.Key.name code.function (code.unfolded 𝓤 𝓛.H 𝓜 𝓡 wired)
    (λ κs. (mut_vals, tt)) (λ κs. (mut_Tells (named 0) κs.0 R, tt)) (λ κs qs bounds a _ are.
    let b = a.0.ref_ptr.0 in let o = a.0.ref_ptr.1 in let h = a.0.now in let vs = mut_vals a.0 in
    let y : W.Ghost = ((κs, qs, bounds, a, (vs, tt)), tt) in
    qed 𝓛 (((‵ (flft κs.0 qs.0) ⊛ ‵ ftrue) ⊛ ‵ ((MutRef (named 0) κs.0 R).own_val a.0 vs) ⊛ ‵ ftrue) ∷ raw (fact 𝓤 (IsSome h.controller)) ∷ []) ∵
    move ! (1 ∷ []) $ heard ! _ (λ is_there. let there = found h.controller is_there in let x = there.value in
    split ! $ split ! $ move ! (2 ∷ []) $ split ! $ keep ! (0 ∷ 2 ∷ []) $
    enter ! _ _ _ _ _ $ alloc_all ! (λ l. pass_all ! refl ((tt, tt), tt) $
    fsplit3 ! $ move ! (1 ∷ 2 ∷ 3 ∷ []) $ opens ! tt R b o (λ us.
    move ! (1 ∷ []) $ peeks ! R _ (shows 𝓛 R) h us (λ is. fsplit ! $ move ! (1 ∷ []) $ fsplit ! $ flt_l ! (λ near.
    rewrite ! 0 (λ (v : Option F.Denot). ‵ (memory_at F h.at v)) there.is refl $
    in_a_block ! h.at (λ p. lies_at F full_share p x) (id⊢ 𝓤 _) (λ b' o' e.
    let word = lowers.val_is h us is ∙ ap (λ (q : Ptr). lowers.lowered (record h { at = q }) ∷ []) e in
    let Cell = λ (ws : List Val). ‵ (cell_at full_share R.mir ws b o) in
    rewrite ! 2 Cell word refl $
    use1 𝓛 (some (λ (v : Val). ‵ (fat full_share τ b' o' v) ⊛ ‵ (F.own_val x (v ∷ [])))) (part_out 𝓛 F refl full_share x b' o') $ pick ! (λ v. split ! $
    -- [its cell; what the controller owns; what the fields own; the struct's cell; the open borrow, in three entries]
    well_typed ! (λ fits.
    first ! $ blocks ! $
    sets ! (of_opd ! (load ! (through ! refl (fld ! refl (stop !))) (look_in ! 3 (sub ! 0 refl (whole !))))) refl (tt, tt) $
    sets ! (of_opd ! (get ! refl)) refl (tt, tt) $
    sets_last ! (of_opd ! (load ! (through ! refl (stop !)) (look ! 0 refl))) refl fits $
    exec ! 𝓣.C 𝓣.Λ (env code.Mir.locals l) (after 1 (code.function).body) (at_ret _ (W.post y)) $
    sets ! (of_opd ! (get ! refl)) refl fits $
    use1 𝓛 (‵ (froom τ b' o')) (𝓛.laws.at_room τ b' o' v) $
    rewrite ! 0 (λ (q : Ptr). ‵ (memory_at F q None)) (sym e) refl $ flt_i ! (count_of h.at) (2 ^ 63) near $ fjoin ! $ rewrite ! 3 Cell (sym word) refl $
    move ! (2 ∷ 0 ∷ []) $ fjoin ! $ move ! (2 ∷ 0 ∷ 3 ∷ 4 ∷ 5 ∷ []) $ closes ! tt R (record h { controller = None }) us b o $
    -- [two parts of self; the token; what the controller owns; self's first part]
    returns ! (look_at ! 0 refl) $ free_all ! refl $ move ! (4 ∷ []) $
    suffices ! _ (ends_at 𝓛 f.ended stayed c y v x (record h { controller = None }, tt) (tt, tt)) $ says ! (there.is, refl) $
    group ! 3 $ nothing ! $ move ! (1 ∷ 0 ∷ []) $ join ! $ nothing ! $ move ! (2 ∷ 0 ∷ []) $ join ! $ frame ! $ frame ! $ done !)))))))))
