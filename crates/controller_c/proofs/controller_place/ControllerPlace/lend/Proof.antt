-- `lend` lends the controller, and the place follows it.
use Rattle.c_values.proofs.Steps.{◌≡◌, ◌^◌, ℕ, List, [], ◌∷◌, refl, sym, ap, ◌∙◌, Option, Some, IsSome, proved, full_share, ent, sep, id⊢, Fml, GName, ftrue, fsep, flft, named, Val, vptr, fact, tables, Logic, sem, ‵, raw, ◌⊛◌, some, later, at_ret, ◌$◌, ◌∵◌, !, qed, done, move, keep, use1, split, join, pick, await, split3, fsplit, fsplit3, fjoin, fpack, rewrite, suffices, frame, group, enter, of_opd, addr, load, stop, fld, first, blocks, exec, returns, alloc_all, pass_all, free_all, look_at, get, through, sets, sets_last, env, whole, sub, look_in, no, follows, Part, lends_Part, shows, cell_at, mem, part_at, part_of, Ptr, Testable, block_ptr, count_of, flt_i, flt_l, lies_at, in_a_block, MutRef, mut_vals, mut_Tells, plain, mut_ref_to, nothing, opens, peeks, heard, shape, Struct, Stays, walk_of, stay_dropped, Goes-spent_ref, ends_at, says, after, found, Ura}
use Rattle.controller_c.specs.contracts.controller_room.ControllerRoom.{the_row as F}
use Rattle.c_values.specs.Place.{memory_at}
use Rattle.controller_c.specs.declared.controller_place.ControllerPlace.{ControllerPlace}
use Rattle.controller_c.specs.contracts.controller_place.ControllerPlace.lend as f
use Rattle.controller_c.proofs.controller_place.ControllerPlace.lend.Statement.{statement}
use Rattle.controller_c.proofs.controller_place.ControllerPlace.lend.Code as code
use Rattle.controller_c.specs.contracts.controller_place.ControllerPlace.{the_row as R, the_type as R-type}
use Rattle.controller_c.proofs.controller_place.ControllerPlace.TheLaws.{lowers}

abbrev stayed : Stays f.ended.signature.params f.ended.kept
stayed = (stay_dropped (mut_ref_to (0 ∷ []) tt (plain (λ _. R))) no, tt)

abbrev with : ControllerPlace → F.Denot → R.Denot
with h w = record h { controller = Some w }

-- all of the place but its controller: what its fields own, and its own cell
abbrev Rest : ControllerPlace → List Val → ℕ → ℕ → Fml
Rest h us b o = fsep ((Struct (shape R-type)).own_val (h.at, tt) us) (cell_at full_share R.mir us b o)

module _ {M : Type 1} {𝓤 : Ura M} (𝓛 : Logic 𝓤) (h : ControllerPlace) (us : List Val) (b o b' o' : ℕ) (near : Testable h.at) where
  back : h.at ≡ block_ptr b' o' → (w : F.Denot) → ent 𝓤 (sep 𝓤 (sem 𝓛 ((mem F).own_at w b' o')) (sem 𝓛 (Rest h us b o))) (sem 𝓛 ((mem R).own_at (with h w) b o))
  unfolding part_of
  back e w =
      qed 𝓛 (‵ (part_at F full_share w b' o') ∷ ‵ (Rest h us b o) ∷ []) ∵ move ! (1 ∷ []) $ fsplit ! $
      rewrite ! 2 (λ (p : Ptr). ‵ (lies_at F full_share p w)) (sym e) refl $ move ! (2 ∷ []) $ flt_i ! (count_of h.at) (2 ^ 63) near $ fjoin ! $
      move ! (1 ∷ []) $ fjoin ! $ move ! (1 ∷ 0 ∷ []) $ fjoin ! $
      fpack ! (List Val) (λ us. fsep (cell_at full_share R.mir us b o) (R.own_val (with h w) us)) us $ done !

pub lend_spec : {M : Type 1} → statement M
lend_spec 𝓤 𝓛 𝓜 𝓡 wired =
    let c = f.clauses 𝓛 𝓜.mem 𝓡.returns in let W = walk_of 𝓛 f.ended stayed c in let 𝓣 = tables 𝓤 𝓛.H 𝓜 𝓡 𝓡.env in
    proved 𝓛 f.ended stayed c 𝓜 𝓡 (Goes-spent_ref 𝓛 1 (0 ∷ []) tt (plain (λ _. R)), tt)
    f.Key.name code.function (code.unfolded 𝓤 𝓛.H 𝓜 𝓡 wired)
    (λ κs. (mut_vals, tt)) (λ κs. (mut_Tells (named 0) κs.0 R, tt)) (λ κs qs bounds a _ are.
    let b = a.0.ref_ptr.0 in let o = a.0.ref_ptr.1 in let h = a.0.now in let vs = mut_vals a.0 in
    let y : W.Ghost = ((κs, qs, bounds, a, (vs, tt)), tt) in
    qed 𝓛 (((‵ (flft κs.0 qs.0) ⊛ ‵ ftrue) ⊛ ‵ ((MutRef (named 0) κs.0 R).own_val a.0 vs) ⊛ ‵ ftrue) ∷ raw (fact 𝓤 (IsSome h.controller)) ∷ []) ∵
    move ! (1 ∷ []) $ heard ! _ (λ is_there. let there = found h.controller is_there in let x = there.value in
    split ! $ split ! $ move ! (2 ∷ []) $ split ! $ keep ! (0 ∷ 2 ∷ []) $
    enter ! _ _ _ _ _ $ alloc_all ! (λ l. pass_all ! refl ((tt, tt), tt) $
    fsplit3 ! $ move ! (1 ∷ 2 ∷ 3 ∷ []) $ opens ! tt R b o (λ us.
    move ! (1 ∷ []) $ peeks ! R _ (shows 𝓛 R) h us (λ is. fsplit ! $ move ! (1 ∷ []) $ fsplit ! $ flt_l ! (λ near.
    rewrite ! 0 (λ (v : Option F.Denot). ‵ (memory_at F h.at v)) there.is refl $
    in_a_block ! h.at (λ p. lies_at F full_share p x) (id⊢ 𝓤 _) (λ b' o' e.
    let word = lowers.val_is h us is ∙ ap (λ (q : Ptr). lowers.lowered (record h { at = q }) ∷ []) e in
    let Cell = λ (ws : List Val). ‵ (cell_at full_share R.mir ws b o) in
    rewrite ! 2 Cell word refl $
    -- [the controller; what the fields own; the struct's cell; the open borrow, in three entries]
    first ! $ blocks ! $
    sets ! (of_opd ! (load ! (through ! refl (fld ! refl (stop !))) (look_in ! 2 (sub ! 0 refl (whole !))))) refl (tt, tt) $
    sets ! (of_opd ! (get ! refl)) refl (tt, tt) $
    sets_last ! (addr ! (through ! refl (stop !))) refl (tt, tt) $
    exec ! 𝓣.C 𝓣.Λ (env code.Mir.locals l) (after 1 (code.function).body) (at_ret _ (W.post y)) $
    sets ! (of_opd ! (get ! refl)) refl (tt, tt) $
    rewrite ! 2 Cell (sym word) refl $ move ! (1 ∷ 2 ∷ []) $ fjoin ! $ move ! (2 ∷ 3 ∷ 4 ∷ 1 ∷ 0 ∷ []) $ group ! 5 $
    let Lent = Part 𝓛 R F (with h) (named 0) κs.0 qs.0 b o b' o' a.0.ghost_name (sem 𝓛 (Rest h us b o)) (back 𝓛 h us b o b' o' near e) x in
    use1 𝓛 (later (some (λ (γ : GName). raw (Lent γ))))
    (lends_Part 𝓛 R F (with h) (named 0) κs.0 qs.0 b o b' o' a.0.ghost_name (sem 𝓛 (Rest h us b o)) (back 𝓛 h us b o b' o' near e) (R.coded.code h) (R.coded.code h) x) $ await ! tt $ pick ! (λ γ.
    returns ! (look_at ! 0 refl) $ free_all ! refl $ keep ! (0 ∷ []) $
    use1 𝓛 (‵ ((MutRef (named 0) κs.0 F).own_val (record { ref_ptr = (b', o'); ghost_name = γ; now = x }) (vptr b' o' ∷ [])) ⊛ ‵ (flft κs.0 qs.0) ⊛ ‵ (follows R F a.0.ghost_name γ (with h))) (id⊢ 𝓤 _) $ split3 ! $
    suffices ! _ (ends_at 𝓛 f.ended stayed c y (vptr b' o') (record { ref_ptr = (b', o'); ghost_name = γ; now = x }) (tt, tt) (tt, tt)) $
    nothing ! $ nothing ! $ fjoin ! $ join ! $ nothing ! $ move ! (2 ∷ 0 ∷ []) $ join ! $ join ! $ frame ! $ says ! (there.is, ap (λ (v : Option F.Denot). record h { controller = v }) (sym there.is)) $ done !))))))))
