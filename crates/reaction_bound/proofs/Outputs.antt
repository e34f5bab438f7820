-- The outputs of an end that are from an item.
use Rattle.reaction_bound.proofs.Common.{Command, End, Entry, Move, Standing, Terms, Took, age_in, age_of, awaited_by, counted, greater, is_other, is_tick, items, items_of, kept_of, left_after, left_at, left_by, peer, same_end, source_after, source_at, source_by, source_in, standing_at, standing_counted, standing_next, standing_of, standing_taken, standing_ticked, ticked, ticked_at, ticks_since, told_ticks, told_age, waited, watchdog_in, worst_of}
use Rattle.std.proofs.Common.{◌≡◌, ℕ, suc, ◌-◌, ◌≤◌, nat_le, List, [], ◌∷◌, length, Bool, true, false, Option, Some, None, is_some, option_map, if◌then◌else◌, refl, ap, ◌∙◌, arith, rules}
use Rattle.reaction_bound.proofs.Waiting.{awaited_within, items_grow, told_since}

by-took : (n : ℕ) (terms : Option Terms) (other : Bool) (before : Option ℕ) (took : Option Took) (earlier : Option ℕ) (k l : ℕ) → (before ≡ Some k → k ≤ l) → (earlier ≡ Some k → k ≤ l)
    → source_at n terms other before took earlier ≡ Some k → k ≤ l
by-took n terms other before took earlier k l h m o = grind arith

by-end : (mine reset : Bool) (peers earlier : Option ℕ) (k l : ℕ) → (peers ≡ Some k → k ≤ l) → (earlier ≡ Some k → k ≤ l) → (if mine then (if reset then None else earlier) else peers) ≡ Some k → k ≤ l
by-end mine reset peers earlier k l h m n = grind arith

-- the number of the item from which outputs are is one of those of the peer's items
pub source_within : (which : End) (n : ℕ) (w : List Entry) (k : ℕ) → source_after which n w ≡ Some k → k ≤ length (items_of (peer which) (items w))
source_within which n [] k is = cc
source_within which n (x ∷ w) k is =
    let l : ℕ = length (items_of (peer which) (items w)) in
    let grow : length (items_of (peer which) (items w)) ≤ length (items_of (peer which) (items (x ∷ w))) = items_grow (peer which) x w in
    let within : k ≤ length (items_of (peer which) (items w)) =
    by-end (same_end which x.end) (is_some x.did.reset) _ _ k l (λ h. source_within which (ticked_at which x n) w k h)
    (λ h. by-took n x.terms (is_other (items w) x) (awaited_by which w) x.did.took _ k l (λ h. awaited_within which w k h) (λ h. source_within which (ticked_at which x n) w k h) h) is in
    omega arith

no-either : (b : Bool) → (let none : Option ℕ = None in none) ≡ (if b then None else None)
no-either b = grind arith

expires-at : (n : ℕ) (terms : Option Terms) (other : Bool) (before : Option ℕ) (took : Option Took) (later earlier : Option ℕ) (left : ℕ) → later ≡ (if nat_le left 1 then None else earlier)
    → source_at (suc n) terms other before took later ≡ (if nat_le (left_at n terms took left) 1 then None else source_at n terms other before took earlier)
expires-at n terms other before took later earlier left h = search rules

expires-head : (mine reset : Bool) (later earlier peers peers' : Option ℕ) (left left' : ℕ) → peers ≡ (if nat_le left' 1 then None else peers') → later ≡ (if nat_le left 1 then None else earlier)
    → (if mine then (if reset then None else later) else peers) ≡ (if nat_le (if mine then left else left') 1 then None else (if mine then (if reset then None else earlier) else peers'))
expires-head mine reset later earlier peers peers' left left' h k = grind arith

ticked-at-suc : (mine : Bool) (m : Move) (n : ℕ) → (if mine then ticked m (suc n) else suc n) ≡ suc (if mine then ticked m n else n)
ticked-at-suc mine m n = grind arith

-- one tick later the outputs are from the same item, unless the watchdog expired
expires : (which : End) (n : ℕ) (w : List Entry) → source_after which (suc n) w ≡ (if nat_le (left_after which n w) 1 then None else source_after which n w)
expires which n [] = no-either (nat_le 0 1)
expires which n (x ∷ w) =
    let before : source_after which (ticked_at which x (suc n)) w ≡ (if nat_le (left_after which (ticked_at which x n) w) 1 then None else source_after which (ticked_at which x n) w) =
    ap (λ (n : ℕ). source_after which n w) (ticked-at-suc (same_end which x.end) x.what n) ∙ expires which (ticked_at which x n) w in
    expires-head (same_end which x.end) (is_some x.did.reset) _ _ _ _ _ _ before (expires-at n x.terms (is_other (items w) x) (awaited_by which w) x.did.took _ _ _ before)

left-at : (n : ℕ) (terms : Option Terms) (took : Option Took) (later earlier : ℕ) → later ≡ earlier - 1 → left_at (suc n) terms took later ≡ left_at n terms took earlier - 1
left-at n terms took later earlier h = grind arith

left-head : (mine : Bool) (a b a' b' : ℕ) → a ≡ a' - 1 → b ≡ b' - 1 → (if mine then a else b) ≡ (if mine then a' else b') - 1
left-head mine a b a' b' h k = grind arith

-- one tick later one tick fewer is left
left-next : (which : End) (n : ℕ) (w : List Entry) → left_after which (suc n) w ≡ left_after which n w - 1
left-next which n [] = refl
left-next which n (x ∷ w) =
    let before : left_after which (ticked_at which x (suc n)) w ≡ left_after which (ticked_at which x n) w - 1 =
    ap (λ (n : ℕ). left_after which n w) (ticked-at-suc (same_end which x.end) x.what n) ∙ left-next which (ticked_at which x n) w in
    left-head (same_end which x.end) _ _ _ _ (left-at n x.terms x.did.took _ _ before) before

same-map : {T : Type 0} (f g : ℕ → T) (o : Option ℕ) → ((k : ℕ) → o ≡ Some k → f k ≡ g k) → option_map f o ≡ option_map g o
same-map f g o h = grind arith

abbrev stands : ℕ → ℕ → Standing
stands left age = record { left = left; age = age }

-- what looking back finds at an entry of the end, and at one of its peer
abbrev left-in : Bool → End → Entry → List Entry → ℕ
left-in mine which x w =
    let earlier : ℕ = left_after which (if mine then ticked x.what 0 else 0) w in
    if mine then left_at 0 x.terms x.did.took earlier else earlier

abbrev source-at : Bool → End → Entry → List Entry → Option ℕ
source-at mine which x w =
    let earlier : Option ℕ = source_after which (if mine then ticked x.what 0 else 0) w in
    if mine then source_in 0 x (is_other (items w) x) (awaited_by which w) earlier else earlier

-- outputs after an entry of the peer
pub heard_outputs : (which : End) (x : Entry) (w : List Entry) → same_end which x.end ≡ false → standing_of which (x ∷ w) ≡ standing_of which w
heard_outputs which x w h = search (rules, source_within)

-- outputs by a frame that was taken in an entry
taken-in : (which : End) (x : Entry) (w : List Entry) (terms : Option Terms) (other : Bool) (before : Option ℕ) (c : Command) → same_end which x.end ≡ true → awaited_by which w ≡ before
    → option_map (λ k. stands (left_by 0 terms) (told_ticks (ticks_since which k (x ∷ w)))) (source_by 0 terms other before c)
    ≡ standing_taken other before (watchdog_in terms) (counted (is_tick x.what) (waited which w before)) c
taken-in which x w terms other before c h k = search rules

-- outputs one tick later
tick-map : (left left' : ℕ) (ages : ℕ → ℕ) (o later : Option ℕ) → left' ≡ left - 1 → later ≡ (if nat_le left 1 then None else o)
    → option_map (λ k. stands left' (told_ticks (suc (ages k)))) later ≡ standing_ticked (option_map (λ k. stands left (ages k)) o)
tick-map left left' ages o later h k = grind arith

-- outputs after an entry of the end that took nothing
ticked-in : (which : End) (x : Entry) (w : List Entry) → same_end which x.end ≡ true
    → option_map (λ k. stands (left_after which (ticked x.what 0) w) (told_ticks (ticks_since which k (x ∷ w)))) (source_after which (ticked x.what 0) w) ≡ standing_counted (is_tick x.what) (standing_of which w)
ticked-in which x w h = search (rules, same-map, ticked, told_since, source_within, tick-map, told_ticks, ticks_since, left-next, expires)

own-by : (which : End) (x : Entry) (w : List Entry) (reset : Bool) (took : Option Took) → same_end which x.end ≡ true
    → option_map (λ k. stands (left_at 0 x.terms took (left_after which (ticked x.what 0) w)) (told_ticks (ticks_since which k (x ∷ w))))
    (if reset then None else source_at 0 x.terms (is_other (items w) x) (awaited_by which w) took (source_after which (ticked x.what 0) w))
    ≡ (if reset then None else standing_at (is_other (items w) x) (awaited_by which w) (watchdog_in x.terms) (counted (is_tick x.what) (waited which w (awaited_by which w))) took (standing_counted (is_tick x.what) (standing_of which w)))
own-by which x w true took e = refl
own-by which x w false None e = ticked-in which x w e
own-by which x w false (Some t) e = taken-in which x w x.terms (is_other (items w) x) (awaited_by which w) t.command e refl

-- outputs after an entry of the end
pub acted_outputs : (which : End) (x : Entry) (w : List Entry) → same_end which x.end ≡ true
    → standing_of which (x ∷ w) ≡ standing_next (is_tick x.what) (is_other (items w) x) x.did (watchdog_in x.terms) (awaited_by which w) (kept_of which w)
acted_outputs which x w e =
    ap (λ (b : Bool). option_map (λ k. stands (left-in b which x w) (told_ticks (ticks_since which k (x ∷ w)))) (source-at b which x w)) e
    ∙ own-by which x w (is_some x.did.reset) x.did.took e

age-in : (left : ℕ) (ages : ℕ → ℕ) (o : Option ℕ) → age_in (option_map (λ k. stands left (told_ticks (ages k))) o) ≡ told_age (option_map ages o)
age-in left ages o = grind arith

-- the greatest age after an entry of the end
pub acted_worst : (which : End) (x : Entry) (w : List Entry) → told_age (worst_of which (x ∷ w)) ≡ greater (age_in (standing_of which (x ∷ w))) (told_age (worst_of which w))
acted_worst which x w = search (rules, greater, age-in, ticks_since)

greater-again : (a b : Option ℕ) → greater a (greater a b) ≡ greater a b
greater-again a b = grind arith

same-worst : (which : End) (w : List Entry) → greater (age_of which w) (worst_of which w) ≡ worst_of which w
same-worst which [] = refl
same-worst which (x ∷ w) = greater-again (age_of which (x ∷ w)) (worst_of which w)

heard-age : (which : End) (x : Entry) (w : List Entry) → same_end which x.end ≡ false → age_of which (x ∷ w) ≡ age_of which w
heard-age which x w h = search (rules, source_within)

-- the greatest age after an entry of the peer
pub heard_worst : (which : End) (x : Entry) (w : List Entry) → same_end which x.end ≡ false → worst_of which (x ∷ w) ≡ worst_of which w
heard_worst which x w h = ap (λ (a : Option ℕ). greater a (worst_of which w)) (heard-age which x w h) ∙ same-worst which w
