-- `put` moves a value into its place.
use Rattle.c_values.proofs.Steps.{◌≡◌, ◌^◌, List, [], ◌∷◌, ◌++◌, refl, sym, ap, ◌∙◌, subst, Option, Some, None, IsTrue, proved_at, Al, handle_tells, full_share, SProp, ent, id⊢, ftrue, flft, named, impl, tnil, dnil, Val, vunit, fact, tables, WpFn, ‵, raw, ◌⊛◌, at_ret, ◌$◌, ◌∵◌, !, qed, done, move, keep, use2, split, split3, join, fsplit, fsplit3, fjoin, feq_i, rewrite, suffices, frame, group, enter, of_opd, unit_lit, load, init, stop, fld, assigns_last, first, blocks, exec, returns, alloc_all, pass_all, free_all, look_at, get, through, sets, env, whole, sub, look_in, part_in, no, shows, cell_at, part_at, Ptr, block_of, count_of, flt_i, flt_l, leads, lies_at, MutRef, mut_vals, mut_Tells, plain, nothing, opens, closes, peeks, heard, Stays, walk_of, stay_ref, stay_dropped, Goes-ref, ends_at, says, after}
use Rattle.std.proofs.alloc.Calls.{Goes-blank}
use Rattle.controller_c.specs.contracts.controller_room.ControllerRoom.{the_row as F}
use Rattle.controller_c.proofs.controller_room.ControllerRoom.TheLaws.{the_row_laws as F-laws}
use Rattle.c_values.specs.Place.{has_memory, memory_at}
use Rattle.controller_c.specs.contracts.controller_place.ControllerPlace.put as f
use Rattle.controller_c.proofs.controller_place.ControllerPlace.put.Statement.{statement}
use Rattle.controller_c.proofs.controller_place.ControllerPlace.put.Code as code
use Rattle.controller_c.specs.contracts.controller_place.ControllerPlace.{the_row as R}
use Rattle.controller_c.proofs.controller_place.ControllerPlace.TheLaws.{lowers}

abbrev stayed : Stays f.ended.signature.params f.ended.kept
stayed = (stay_ref (0 ∷ []) tt (plain (λ _. R)), (stay_dropped (plain (λ _. F)) no, tt))

-- the value's type, in the form of an allocator's handle, which says that a value has one machine value
abbrev value : Al
value = record { row = F; laws = F-laws; g = record { dealloc_token = λ a σ p. ftrue }; d = impl [] tnil dnil; drops = impl [] tnil dnil }

pub put_spec : {M : Type 1} → statement M
put_spec 𝓤 𝓛 𝓜 𝓡 wired =
    let c = f.clauses 𝓛 𝓜.mem 𝓡.returns in let W = walk_of 𝓛 f.ended stayed c in let 𝓣 = tables 𝓤 𝓛.H 𝓜 𝓡 𝓡.env in
    proved_at 𝓛 f.ended stayed c 𝓜 𝓡 (Goes-ref 𝓛 1 0 tt (plain (λ _. R)), (Goes-blank 𝓛 1 (plain (λ _. F)) no (λ κs x w. tt), tt))
    f.Key.name code.function (code.unfolded 𝓤 𝓛.H 𝓜 𝓡 wired) (λ z are.
    let κs = z.0.0 in let qs = z.0.1 in let a = z.0.3.0 in let x = z.0.3.1.0 in let b = a.ref_ptr.0 in let o = a.ref_ptr.1 in let h = a.now in
    let Run : List Val → SProp 𝓤 = λ ws. WpFn 𝓤 𝓛.H 𝓣.C 𝓣.Λ code.function ws (W.post z) in
    qed 𝓛 (((‵ (flft κs.0 qs.0) ⊛ ‵ ftrue) ⊛ ‵ ((MutRef (named 0) κs.0 R).own_val a z.0.4.0) ⊛ ‵ (F.own_val x z.0.4.1.0) ⊛ ‵ ftrue) ∷ raw (fact 𝓤 ((h.controller ≡ None) × IsTrue (has_memory h.at))) ∷ []) ∵
    move ! (1 ∷ []) $ heard ! _ (λ free. split ! $ split ! $ move ! (2 ∷ []) $ split3 ! $ keep ! (1 ∷ 0 ∷ 3 ∷ []) $
    handle_tells value ! x z.0.4.1.0 (λ v is_one fits.
    suffices ! (Run (mut_vals a ++ (v ∷ []))) (subst (λ (us : List Val). ent 𝓤 (Run (mut_vals a ++ (v ∷ []))) (Run us)) (λ i. sym (mut_Tells (named 0) κs.0 R a z.0.4.0 are.0) i ++ (sym is_one i ++ [])) (id⊢ 𝓤 (Run (mut_vals a ++ (v ∷ []))))) $
    enter ! _ _ _ _ _ $ alloc_all ! (λ l. pass_all ! refl ((tt, tt), (fits, tt)) $
    move ! (1 ∷ []) $ fsplit3 ! $ move ! (1 ∷ 2 ∷ 4 ∷ []) $ opens ! tt R b o (λ us.
    move ! (1 ∷ []) $ peeks ! R _ (shows 𝓛 R) h us (λ is. fsplit ! $ move ! (1 ∷ []) $ fsplit ! $ flt_l ! (λ near.
    let b' = block_of h.at in let o' = count_of h.at in let e = leads h.at free.1 in
    rewrite ! 0 (λ (w : Option F.Denot). ‵ (memory_at F h.at w)) free.0 refl $ rewrite ! 0 (λ (p : Ptr). ‵ (memory_at F p None)) e refl $
    let word = lowers.val_is h us is ∙ ap (λ (q : Ptr). lowers.lowered (record h { at = q }) ∷ []) e in
    let Cell = λ (ws : List Val). ‵ (cell_at full_share R.mir ws b o) in
    rewrite ! 2 Cell word refl $
    -- [the room; what the fields own; the struct's cell; the open borrow, in three entries; self's first part; what x
    -- owns]
    first ! $ blocks ! $
    sets ! (of_opd ! (load ! (through ! refl (fld ! refl (stop !))) (look_in ! 2 (sub ! 0 refl (whole !))))) refl (tt, tt) $
    sets ! (of_opd ! (get ! refl)) refl (tt, tt) $
    sets ! (of_opd ! (get ! refl)) refl fits $
    assigns_last ! (of_opd ! (get ! refl)) (through ! refl (stop !)) (init ! 0 refl fits) $
    exec ! 𝓣.C 𝓣.Λ (env code.Mir.locals l) (after 1 (code.function).body) (at_ret _ (W.post z)) $
    sets ! (of_opd ! (unit_lit !)) refl (tt, tt) $
    move ! (0 ∷ 7 ∷ []) $ use2 𝓛 (‵ (part_at F full_share x b' o')) (part_in 𝓛 F refl full_share x b' o' v) $
    rewrite ! 0 (λ (q : Ptr). ‵ (lies_at F full_share q x)) (sym e) refl $ flt_i ! (count_of h.at) (2 ^ 63) near $ fjoin ! $ rewrite ! 2 Cell (sym word) refl $
    move ! (1 ∷ []) $ fjoin ! $ move ! (1 ∷ []) $ closes ! tt R (record h { controller = Some x }) us b o $
    -- [two parts of self; the token; self's first part]
    returns ! (look_at ! 0 refl) $ free_all ! refl $ move ! (3 ∷ []) $
    suffices ! _ (ends_at 𝓛 f.ended stayed c z vunit tt (record h { controller = Some x }, (tt, tt)) (tt, (tt, tt))) $ says ! refl $
    group ! 3 $ nothing ! $ nothing ! $ join ! $ move ! (1 ∷ 0 ∷ []) $ join ! $ nothing ! $ move ! (2 ∷ 0 ∷ []) $ join ! $ frame ! $ frame ! $
    feq_i ! _ (vunit ∷ []) _ refl $ done !)))))))
