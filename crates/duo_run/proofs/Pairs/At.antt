-- The pair of a number, and what a step at it leaves of the others.
use Rattle.duo_run.proofs.Common.{Err, IfOk, IsSomeAnd, None, Ok, OnOk, Option, Result, Some, length-set, numbered, same_Some, slice_get_read, slice_get_within}
use Rattle.std.proofs.Common.{◌≡◌, ◌<◌, ◌≤◌, ◌+◌, ◌-◌, ℕ, zero, suc, List, [], ◌∷◌, length, get_or, slice_get, slice_set, refl, arith, ap, sym, subst, ◌∙◌, below_more, rules}

pub named : {X : Type 0} (k place : ℕ) (xs : List X) (x : X) → k ≡ place + 1 → slice_get xs place ≡ Some x → numbered k xs ≡ Some x
named k place xs x h l = grind arith

-- what is read at the place of a number has this number
pub at_number : {X : Type 0} (xs ys : List X) (k place : ℕ) (x : X) → xs ≡ ys → place ≡ k - 1 → 1 ≤ k → k ≤ length ys → x ≡ get_or xs place x → numbered k ys ≡ Some x
at_number {X} xs ys k place x same at first last read =
    subst (λ (l : List X). numbered k l ≡ Some x) same
    (named k place xs x (omega (arith, at, first)) (slice_get_read xs _ place x refl (omega (arith, at, first, last, ap length same)) read))

pub set_beside : {X : Type 0} (xs : List X) (i k : ℕ) (y : X) → (k ≡ i → ⊥) → slice_get (slice_set xs i y) k ≡ slice_get xs k
set_beside (a ∷ xs) zero zero y h = absurd (h refl)
set_beside (a ∷ xs) (suc i) (suc k) y h = set_beside xs i k y (λ e. h (ap suc e))
set_beside _ _ _ y h = refl

pub set_at : {X : Type 0} (xs : List X) (i : ℕ) (y : X) → i < length xs → slice_get (slice_set xs i y) i ≡ Some y
set_at [] i y below = absurd (omega arith)
set_at (a ∷ xs) zero y below = refl
set_at (a ∷ xs) (suc i) y below = set_at xs i y (omega arith)

-- so many elements of a list were set, each so
pub record SetTo {X : Type 0} (Set : ℕ → X → X → Type 0) (i : ℕ) (old now : List X) : Type 0 where
  pub many : length now ≡ length old
  pub done : (j : ℕ) → j < i → (x y : X) → slice_get old j ≡ Some x → slice_get now j ≡ Some y → Set j x y
  pub rest : (j : ℕ) → i ≤ j → slice_get now j ≡ slice_get old j

pub set_none : {X : Type 0} (Set : ℕ → X → X → Type 0) (old : List X) → SetTo Set 0 old old
set_none Set old = record { many = refl; done = λ j below. absurd (omega arith); rest = λ j late. refl }

pub set_more : {X : Type 0} (Set : ℕ → X → X → Type 0) (i : ℕ) (old now : List X) (x y : X) → SetTo Set i old now → slice_get now i ≡ Some x → Set i x y → SetTo Set (i + 1) old (slice_set now i y)
set_more {X} Set i old now x y s at is =
    let many : length (slice_set now i y) ≡ length now = length-set now i y in
    record {
      many = many ∙ s.many;
      done = below_more _ _
          (λ j early a b a-at b-at. s.done j early a b a-at (sym (set_beside now i j y (λ same. let x : i < i = subst (λ (m : ℕ). m < i) same early in omega arith)) ∙ b-at))
          (λ a b a-at b-at.
          let from : x ≡ a = same_Some _ _ (sym at ∙ s.rest i (omega arith) ∙ a-at) in
          let to : y ≡ b = same_Some _ _ (sym (set_at now i y (slice_get_within now i x at)) ∙ b-at) in
          subst (λ (a : X). Set i a b) from (subst (Set i x) to is));
      rest = λ j late. set_beside now i j y (λ same. omega (arith, same, late)) ∙ s.rest j (omega (arith, late));
    }

pub others_stay : {X : Type 0} (k place other : ℕ) (xs new : List X) (y : X) → k ≡ place + 1 → new ≡ slice_set xs place y → (other ≡ k → ⊥) → numbered other new ≡ numbered other xs
others_stay k place other xs new y h l m = search (rules, set_beside)

-- an option of which something holds has a value
pub there : {X : Type 0} (o : Option X) (P : X → Type 0) → IsSomeAnd o P → (x : X) × (o ≡ Some x) × P x
there (Some x) P holds = (x, refl, holds)
there None P holds = absurd holds

-- what holds of a value and of its being there
pub with_both : {T E : Type 0} (r : Result T E) (P : T → Type 0) (Q : Type 0) (R : T → Type 0) → IfOk r P → OnOk r Q → ((x : T) → P x → Q → R x) → IfOk r R
with_both (Ok x) P Q R p q both = both x p q
with_both (Err e) P Q R p q both = tt
