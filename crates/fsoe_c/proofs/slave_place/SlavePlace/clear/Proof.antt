-- `clear` makes the value's memory room.
use Rattle.c_values.proofs.Steps.{◌^◌, [], ◌∷◌, refl, sym, Option, None, IsSome, proved, full_share, id⊢, ftrue, fat, flft, froom, Ty, named, Val, vunit, fact, tables, ‵, raw, ◌⊛◌, some, ◌$◌, ◌∵◌, !, qed, done, drop, move, keep, use1, split, join, pick, fsplit, fsplit3, fjoin, feq_i, rewrite, suffices, frame, group, enter, of_opd, unit_lit, returns, alloc_all, pass_all, free_all, look_at, sets, part_out, lone, Ptr, count_of, flt_i, flt_l, lies_at, in_a_block, MutRef, mut_vals, mut_Tells, plain, nothing, opens, closes, heard, Stays, walk_of, stay_ref, Goes-ref, ends_at, says, found}
use Rattle.fsoe_c.specs.contracts.slave_room.SlaveRoom.{the_row as F}
use Rattle.c_values.specs.Place.{memory_at}
use Rattle.fsoe_c.specs.contracts.slave_place.SlavePlace.clear as f
use Rattle.fsoe_c.proofs.slave_place.SlavePlace.clear.Statement.{statement}
use Rattle.fsoe_c.proofs.slave_place.SlavePlace.clear.Code as code
use Rattle.fsoe_c.specs.contracts.slave_place.SlavePlace.{the_row as R}

abbrev stayed : Stays f.ended.signature.params f.ended.kept
stayed = (stay_ref (0 ∷ []) tt (plain (λ _. R)), tt)

abbrev τ : Ty
τ = lone F.mir

pub clear_spec : {M : Type 1} → statement M
clear_spec 𝓤 𝓛 𝓜 𝓡 wired =
    let c = f.clauses 𝓛 𝓜.mem 𝓡.returns in let W = walk_of 𝓛 f.ended stayed c in let 𝓣 = tables 𝓤 𝓛.H 𝓜 𝓡 𝓡.env in
    proved 𝓛 f.ended stayed c 𝓜 𝓡 (Goes-ref 𝓛 1 0 tt (plain (λ _. R)), tt)
    f.Key.name code.function (code.unfolded 𝓤 𝓛.H 𝓜 𝓡 wired)
    (λ κs. (mut_vals, tt)) (λ κs. (mut_Tells (named 0) κs.0 R, tt)) (λ κs qs bounds a _ are.
    let b = a.0.ref_ptr.0 in let o = a.0.ref_ptr.1 in let h = a.0.now in let vs = mut_vals a.0 in
    let y : W.Ghost = ((κs, qs, bounds, a, (vs, tt)), tt) in
    qed 𝓛 (((‵ (flft κs.0 qs.0) ⊛ ‵ ftrue) ⊛ ‵ ((MutRef (named 0) κs.0 R).own_val a.0 vs) ⊛ ‵ ftrue) ∷ raw (fact 𝓤 (IsSome h.slave)) ∷ []) ∵
    move ! (1 ∷ []) $ heard ! _ (λ is_there. let there = found h.slave is_there in let x = there.value in
    split ! $ split ! $ move ! (2 ∷ []) $ split ! $ keep ! (0 ∷ 2 ∷ []) $
    enter ! _ _ _ _ _ $ alloc_all ! (λ l. pass_all ! refl ((tt, tt), tt) $
    fsplit3 ! $ move ! (1 ∷ 2 ∷ 3 ∷ []) $ opens ! tt R b o (λ us.
    move ! (1 ∷ []) $ fsplit ! $ move ! (1 ∷ []) $ fsplit ! $ flt_l ! (λ near.
    rewrite ! 0 (λ (v : Option F.Denot). ‵ (memory_at F h.at v)) there.is refl $
    in_a_block ! h.at (λ p. lies_at F full_share p x) (id⊢ 𝓤 _) (λ b' o' e.
    use1 𝓛 (some (λ (v : Val). ‵ (fat full_share τ b' o' v) ⊛ ‵ (F.own_val x (v ∷ [])))) (part_out 𝓛 F refl full_share x b' o') $ pick ! (λ v. split ! $
    move ! (1 ∷ []) $ drop ! $ use1 𝓛 (‵ (froom τ b' o')) (𝓛.laws.at_room τ b' o' v) $
    rewrite ! 0 (λ (q : Ptr). ‵ (memory_at F q None)) (sym e) refl $ flt_i ! (count_of h.at) (2 ^ 63) near $ fjoin ! $
    -- [the room; what the fields own; the struct's cell; the open borrow, in three entries]
    move ! (1 ∷ []) $ fjoin ! $ move ! (1 ∷ []) $ closes ! tt R (record h { slave = None }) us b o $
    sets ! (of_opd ! (unit_lit !)) refl (tt, tt) $ returns ! (look_at ! 0 refl) $ free_all ! refl $ move ! (3 ∷ []) $
    suffices ! _ (ends_at 𝓛 f.ended stayed c y vunit tt (record h { slave = None }, tt) (tt, tt)) $ says ! refl $
    group ! 3 $ nothing ! $ move ! (1 ∷ 0 ∷ []) $ join ! $ nothing ! $ move ! (2 ∷ 0 ∷ []) $ join ! $ frame ! $ frame ! $
    feq_i ! _ (vunit ∷ []) _ refl $ done !)))))))
