-- `split` cuts what it owns in two.
use Rattle.region.proofs.Steps.{◌≡◌, ◌-◌, ◌+◌, ◌≤◌, ◌%◌, List, [], ◌∷◌, ◌++◌, refl, ap, ◌∙◌, arith, w64, Fn, Val, vint, vptr, SProp, emp, id⊢, Env, WpFn, fact, fact_i, tables, ‵, raw, ◌⊛◌, prop, at_ret, ◌$◌, ◌∵◌, !, qed, by, move, drop, use0, use1, use2, split, regoal, fsplit, fjoin, whole, sub, agg, stop, fld, of_opd, bin, no_more, and_then, returns, enter, first, blocks, exec, alloc_all, pass_all, free_all, look_at, get, get_in, sets, sets_last, env, is, owns, Ptr, block_ptr, in_a_block, types_at, nothing, heard, Tuple, alive, Stays, stay_dropped, walk_of, Goes-dropped, Goes-blank, after, pair_of, pair_val, proved_at, leaves, list_val, list_own, list_told, list_made, slot_at, resized, cuts}
use Rattle.region.specs.Bytes.{bytes_at}
use Rattle.region.specs.contracts.memory.Memory as memory
use Rattle.region.specs.contracts.memory.Memory.split.{ended, clauses}
use Rattle.region.specs.contracts.memory.Memory.split.Key.{name as #self}
use Rattle.region.proofs.memory.Memory.split.Statement.{statement}
use Rattle.region.proofs.memory.Memory.split.Code as compiled

pub split_spec : {M : Type 1} → statement M
split_spec 𝓤 𝓛 𝓜 𝓡 wired =
    let H = 𝓛.H in
    let c = clauses 𝓛 𝓜.mem 𝓡.returns in
    let fn : Fn = compiled.function in
    let stays : Stays ended.signature.params ended.kept = (stay_dropped (slot_at 0 ended.signature.params) ended.kept.0, (stay_dropped (slot_at 1 ended.signature.params) ended.kept.1.0, tt)) in
    let C = (tables 𝓤 H 𝓜 𝓡 𝓡.env).C in
    let Λ = (tables 𝓤 H 𝓜 𝓡 𝓡.env).Λ in
    proved_at 𝓛 ended stays c 𝓜 𝓡 (Goes-blank 𝓛 0 (slot_at 0 ended.signature.params) ended.kept.0 (λ κs x f. tt), (Goes-dropped 𝓛 0 (slot_at 1 ended.signature.params) ended.kept.1.0 (λ κs x f. refl), tt)) #self fn (compiled.unfolded 𝓤 H 𝓜 𝓡 wired) (λ z are.
    let Post : Val → SProp 𝓤 = (walk_of 𝓛 ended stays c).post z in
    let a = z.0.3 in
    let x = a.0 in
    let n = a.1.0 in
    let m = x.size - n in
    let fits = are.1.0.1 in
    let Asked : Type 0 = (n % 16 ≡ 0) × (n ≤ x.size) in
    qed 𝓛 ((raw (alive 𝓛 ended.signature z.0.0 z.0.1) ⊛ ‵ (owns (types_at ended.signature.params z.0.0) a z.0.4)) ∷ raw (fact 𝓤 Asked) ∷ []) ∵ move ! (1 ∷ []) $ heard ! Asked (λ asked. split ! $ move ! (1 ∷ []) $
    fsplit ! $ fsplit ! $ drop ! $ move ! (1 ∷ []) $ drop ! $ in_a_block ! x.ptr (λ p. bytes_at p x.size) (id⊢ 𝓤 _) (λ b o e.
    let p : Ptr = block_ptr b o in
    let q : Ptr = block_ptr b (o + n) in
    use1 𝓛 (‵ (bytes_at p (n + m))) (resized 𝓛 b o x.size (n + m) (omega arith)) $ use1 𝓛 (‵ (bytes_at p n) ⊛ ‵ (bytes_at q m)) (cuts 𝓛 b o n m asked.0) $ split ! $
    regoal ! (λ (us : List Val). prop (WpFn 𝓤 H C Λ fn us Post)) (λ i. ((list_told x.ptr z.0.4.0 are.0.0).0 ∙ (λ j. list_val (e j) ∷ [])) i ++ (are.1.0.0 i ++ [])) refl $
    enter ! C Λ fn (list_val p ∷ vint w64 n ∷ []) Post $
    alloc_all ! (λ l. pass_all ! refl ((tt, (tt, tt)), ((tt, record { fits = fits }), tt)) $ let En : Env 𝓤 𝓛.H = env fn.locals l in
    sets ! (of_opd ! (get_in ! (fld ! refl (stop !)) (sub ! 0 refl (whole !)))) refl (tt, tt) $
    first ! $ blocks ! $
    sets ! (is ! (bin ! (get ! refl) (get ! refl) tt) (ap (vptr b) (omega arith))) refl (tt, tt) $
    sets ! (agg ! (and_then ! (get ! refl) (no_more !))) refl (tt, (tt, tt)) $
    sets ! (agg ! (and_then ! (get ! refl) (no_more !))) refl (tt, (tt, tt)) $
    sets_last ! (agg ! (and_then ! (get ! refl) (and_then ! (get ! refl) (no_more !)))) refl (tt, ((tt, tt), ((tt, tt), tt))) $
    exec ! C Λ En (after 2 fn.body) (at_ret En Post) $
    sets ! (of_opd ! (get ! refl)) refl (tt, ((tt, tt), ((tt, tt), tt))) $
    returns ! (look_at ! 0 refl) $ free_all ! refl $
    let y : (memory.the_row).Denot = record { ptr = p; size = n } in
    let w : (memory.the_row).Denot = record { ptr = q; size = m } in
    let v : Val = pair_val (list_val p) (list_val q) in
    use0 𝓛 (‵ (list_own p (list_val p ∷ []))) (list_made 𝓛 p tt) $ fjoin ! $ move ! (1 ∷ []) $ use0 𝓛 (‵ (list_own q (list_val q ∷ []))) (list_made 𝓛 q tt) $ fjoin ! $ move ! (1 ∷ 0 ∷ []) $
    use2 𝓛 (‵ ((Tuple (memory.the_row ∷ memory.the_row ∷ [])).own_val (y, w) (v ∷ []))) (pair_of 𝓛 memory.the_row memory.the_row y w (list_val p) (list_val q)) $
    use0 𝓛 (raw (fact 𝓤 ((n ≡ n) × (m ≡ m)))) (fact_i 𝓤 ((n ≡ n) × (m ≡ m)) (emp 𝓤) (refl, refl)) $ nothing ! $ nothing ! $ fjoin ! $ nothing ! $ fjoin ! $ move ! (3 ∷ 0 ∷ 2 ∷ 1 ∷ []) $
    by ! (leaves 𝓛 ended stays c z v (y, w) (tt, (tt, tt)) (tt, (tt, tt)))))))
