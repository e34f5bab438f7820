-- The rows on data bytes and CRCs: where none applies.
use Rattle.trace_diag.proofs.Common.{eq-eqb, eqb-true, first_differing, first_failing}
use Rattle.std.proofs.Common.{◌≡◌, ◌==◌, ℕ, zero, suc, ◌+◌, ◌<◌, List, [], ◌∷◌, length, get_or, Bool, true, Option, Some, None, refl, sym, ap, ap₂, ◌∙◌, arith, if◌then◌else◌}

-- the byte at a place, 0 past the end
abbrev pub at : List ℕ → ℕ → ℕ
at bytes i = get_or bytes i 0

holds-or : (holds : Bool) (a : Option ℕ) (p : ℕ) → (if holds then a else Some p) ≡ None → (holds ≡ true) × (a ≡ None)
holds-or holds a p h = grind arith

-- two lists of one length that don't differ from a third are the same
pub same_where : (i : ℕ) (xs ys zs : List ℕ) → length xs ≡ length ys → first_differing i xs zs ≡ None → first_differing i ys zs ≡ None → xs ≡ ys
same_where i [] [] zs h e k = refl
same_where i (x ∷ xs) (y ∷ ys) [] h e k = absurd (cc e)
same_where i (x ∷ xs) (y ∷ ys) (z ∷ zs) h e k =
    let f = holds-or (x == z) (first_differing (suc i) xs zs) i e in
    let g = holds-or (y == z) (first_differing (suc i) ys zs) i k in
    ap₂ (λ (a : ℕ) (b : List ℕ). a ∷ b) (eqb-true x z f.0 ∙ sym (eqb-true y z g.0)) (same_where (suc i) xs ys zs (omega (arith, h)) f.1 g.1)
same_where i _ _ zs h e k = absurd (omega (arith, h))

pub same_none : (i : ℕ) (xs : List ℕ) → first_differing i xs xs ≡ None
same_none i [] = refl
same_none i (x ∷ xs) = ap (λ (b : Bool). if b then first_differing (suc i) xs xs else Some i) (eq-eqb x x refl) ∙ same_none (suc i) xs

-- a list has the same numbers as another of its length exactly where none differs
pub none_differs : (i : ℕ) (xs ys : List ℕ) → length xs ≡ length ys → first_differing i xs ys ≡ None → xs ≡ ys
none_differs i xs ys h e = same_where i xs ys ys h e (same_none i ys)

-- no byte fails, of which the first stands at p, exactly where each of them holds
pub none_fails : (holds : ℕ → ℕ → Bool) (p : ℕ) (bytes : List ℕ) → first_failing holds p bytes ≡ None → (i : ℕ) → i < length bytes → holds (p + i) (at bytes i) ≡ true
none_fails holds p [] e i h = absurd (omega (arith, h))
none_fails holds p (b ∷ bytes) e zero h =
    let here : p + 0 ≡ p = omega arith in
    ap (λ (n : ℕ). holds n b) here ∙ (holds-or (holds p b) (first_failing holds (suc p) bytes) p e).0
none_fails holds p (b ∷ bytes) e (suc i) h =
    let next : p + suc i ≡ suc p + i = omega arith in
    ap (λ (n : ℕ). holds n (at bytes i)) next ∙ none_fails holds (suc p) bytes (holds-or (holds p b) (first_failing holds (suc p) bytes) p e).1 i (omega (arith, h))

pub all_hold : (holds : ℕ → ℕ → Bool) (p : ℕ) (bytes : List ℕ) → ((i : ℕ) → holds (p + i) (at bytes i) ≡ true) → first_failing holds p bytes ≡ None
all_hold holds p [] each = refl
all_hold holds p (b ∷ bytes) each =
    let here : p ≡ p + 0 = omega arith in
    ap (λ (h : Bool). if h then first_failing holds (suc p) bytes else Some p) (ap (λ (n : ℕ). holds n b) here ∙ each 0)
    ∙ all_hold holds (suc p) bytes (λ i. let next : suc p + i ≡ p + suc i = omega arith in ap (λ (n : ℕ). holds n (at bytes i)) next ∙ each (suc i))
