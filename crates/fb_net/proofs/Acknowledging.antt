-- The drive of an emergency stop whose acknowledgement comes as two bits.
use Rattle.fb_net.proofs.Common.{Bit, NetCycle, at_number, bit_at, block_cycles, block_values, cases_Bool, driven_images, has_bit, is_same_bit, list_any, second}
use Rattle.std.proofs.Common.{◌≡◌, inl, inr, ℕ, Bool, true, false, not, ◌&&◌, ◌||◌, List, [], ◌∷◌, take, refl, sym, ap, ap₂, ◌∙◌, eq-eqb, arith, rules}
use Rattle.fb_lib.specs.LookBack.{is_now, run_until_now}
use Rattle.fb_net.specs.declared.wire.Wire.TheVariants as wire
use Rattle.fb_net.specs.Acknowledged.{stop_blocks, stop_drives, is_on, may_run, in_order, is_acknowledged, is_let_go}
use Rattle.fb_net.proofs.Bits.{driven_bit}

-- what was seen, after one more cycle
seen-more : (p : NetCycle → Bool) (ps : List (NetCycle → Bool)) (q : NetCycle → Bool) (c : NetCycle) (e : List NetCycle)
    → in_order (p ∷ ps) (run_until_now q (c ∷ e)) ≡ (q c && ((p c && in_order ps (run_until_now q (c ∷ e))) || in_order (p ∷ ps) (run_until_now q e)))
seen-more p ps q c e = grind arith

-- the second block: the acknowledgement was seen released
released-seen : (s t p r : Bit) (e : List NetCycle) → at_number (block_values (stop_blocks s t p r) e) 2 false ≡ in_order (is_on r ∷ []) (run_until_now (may_run s t) e)
released-seen s t p r [] = refl
released-seen s t p r (c ∷ e) =
    ap (λ (x : Bool). may_run s t c && (is_on r c || x)) (released-seen s t p r e) ∙ set (may_run s t c) (is_on r c) _ ∙ sym (seen-more (is_on r) [] (may_run s t) c e)
  where
    set : (s r old : Bool) → (s && (r || old)) ≡ (s && ((r && true) || old))
    set s r old = grind arith

-- the fourth: and pressed after that
pressed-seen : (s t p r : Bit) (e : List NetCycle)
    → at_number (block_values (stop_blocks s t p r) e) 4 false ≡ in_order (is_on p ∷ is_on r ∷ []) (run_until_now (may_run s t) e)
pressed-seen s t p r [] = refl
pressed-seen s t p r (c ∷ e) =
    ap₂ (λ (x y : Bool). may_run s t c && ((x && (is_on p c && true)) || y)) (released-seen s t p r (c ∷ e)) (pressed-seen s t p r e)
    ∙ set (may_run s t c) (is_on p c) _ _ ∙ sym (seen-more (is_on p) (is_on r ∷ []) (may_run s t) c e)
  where
    set : (s p seen old : Bool) → (s && ((seen && (p && true)) || old)) ≡ (s && ((p && seen) || old))
    set s p seen old = grind arith

-- the fifth, in the cycle before: and is released again
abbrev was : Bit → Bit → Bit → Bit → List NetCycle → Bool
was s t p r e = is_now second (block_cycles (block_values (take 5 (stop_blocks s t p r))) (wire.Block 1 ∷ wire.Block 5 ∷ []) e)

was-released : (s t p r : Bit) (e : List NetCycle) → was s t p r e ≡ (in_order (is_on p ∷ is_on r ∷ []) (run_until_now (may_run s t) e) && (is_now (is_on r) e && true))
was-released s t p r e = search (rules, pressed-seen)

released-again : (s t p r : Bit) (e : List NetCycle)
    → (in_order (is_on p ∷ is_on r ∷ []) (run_until_now (may_run s t) e) && (is_now (is_on r) e && true)) ≡ true → is_acknowledged s t p r e ≡ true
released-again s t p r e h = search rules

-- the last: it rises where that was first seen, and stays on
stop-is : (s t p r : Bit) (e : List NetCycle) → at_number (block_values (stop_blocks s t p r) e) 6 false ≡ is_acknowledged s t p r e
stop-is s t p r [] = refl
stop-is s t p r (c ∷ e) =
    ap₂ (λ (x y : Bool). may_run s t c && (((x && (is_on r c && true)) && not (was s t p r e)) || y)) (pressed-seen s t p r (c ∷ e)) (stop-is s t p r e)
    ∙ rises (may_run s t c) (is_on r c) _ _ _ (λ on. released-again s t p r e (sym (was-released s t p r e) ∙ on)) ∙ sym (seen-more (is_on r) (is_on p ∷ is_on r ∷ []) (may_run s t) c e)
  where
    rises : (s r seen was old : Bool) → (was ≡ true → old ≡ true) → (s && (((seen && (r && true)) && not was) || old)) ≡ (s && ((r && seen) || old))
    rises s r seen was old h = grind arith

same-bit : (b : Bit) → is_same_bit b b ≡ true
same-bit b = ap₂ (λ (x y : Bool). x && y) (eq-eqb b.link b.link refl) (eq-eqb b.bit b.bit refl)

pub drive_is : (s t p r d : Bit) (lens : List ℕ) (c : NetCycle) (e : List NetCycle) → has_bit lens d ≡ true
    → bit_at (driven_images (stop_drives d) (block_values (stop_blocks s t p r) (c ∷ e)) c.inputs lens) d ≡ is_acknowledged s t p r (c ∷ e)
drive_is s t p r d lens c e there =
    driven_bit (stop_drives d) (block_values (stop_blocks s t p r) (c ∷ e)) c.inputs lens d there
    ∙ ap (λ (x : Bool). (x && at_number (block_values (stop_blocks s t p r) (c ∷ e)) 6 false) || false) (same-bit d)
    ∙ alone (at_number (block_values (stop_blocks s t p r) (c ∷ e)) 6 false) ∙ stop-is s t p r (c ∷ e)
  where
    alone : (x : Bool) → (x || false) ≡ x
    alone x = grind arith

-- it goes on at a release
pub goes_on : (s t p r : Bit) (c : NetCycle) (e : List NetCycle) → is_acknowledged s t p r (c ∷ e) ≡ true → is_acknowledged s t p r e ≡ false
    → is_let_go p r (c ∷ e) ≡ true
goes_on s t p r c e h k = search rules

-- what was never seen wasn't seen first, nor second
neither : (a b : Bool) → (a || b) ≡ false → (a ≡ false) × (b ≡ false)
neither a b h = grind arith

not-first : (p : NetCycle → Bool) (ps : List (NetCycle → Bool)) (e : List NetCycle) → list_any p e ≡ false → in_order (p ∷ ps) e ≡ false
not-first p ps [] h = refl
not-first p ps (c ∷ e) h =
    let t = neither (p c) (list_any p e) h in
    ap (λ (x : Bool). (x && in_order ps (c ∷ e)) || in_order (p ∷ ps) e) t.0 ∙ not-first p ps e t.1

not-second : (q p : NetCycle → Bool) (ps : List (NetCycle → Bool)) (e : List NetCycle) → list_any p e ≡ false → in_order (q ∷ p ∷ ps) e ≡ false
not-second q p ps [] h = refl
not-second q p ps (c ∷ e) h =
    ap₂ (λ (x y : Bool). (q c && x) || y) (not-first p ps (c ∷ e) h) (not-second q p ps e ((neither (p c) (list_any p e) h).1)) ∙ none (q c)
  where
    none : (a : Bool) → ((a && false) || false) ≡ false
    none a = grind arith

pub stays_off : (s t p r : Bit) (e : List NetCycle) → (list_any (is_on p) (run_until_now (may_run s t) e) && list_any (is_on r) (run_until_now (may_run s t) e)) ≡ false
    → is_acknowledged s t p r e ≡ false
stays_off s t p r e h =
    elim (cases_Bool (list_any (is_on p) (run_until_now (may_run s t) e))) [
      | inl some ↦
          not-first (is_on r) (is_on p ∷ is_on r ∷ []) (run_until_now (may_run s t) e)
          (sym (ap (λ (x : Bool). x && list_any (is_on r) (run_until_now (may_run s t) e)) some) ∙ h)
      | inr none ↦ not-second (is_on r) (is_on p) (is_on r ∷ []) (run_until_now (may_run s t) e) none
    ]
