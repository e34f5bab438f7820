-- Loops over lists, place by place.
use Rattle.multi_master.proofs.Common.{All-append, All-weaker, AreNumbers, IsNumber, common_steps, get_or_from_slice_get, slice_get_within, take_more}
use Rattle.std.proofs.Common.{◌≡◌, ◌≤◌, ℕ, ◌+◌, List, [], ◌∷◌, ◌++◌, take, slice_get, slice_set, Some, Bool, if◌then◌else◌, ap, ◌∙◌, arith, length-append}
use Rattle.std.proofs.lemmas.Option.{gets}

-- from a place on, a list is as it was
abbrev pub Untouched : {A : Type 0} → ℕ → List A → List A → Type 0
Untouched i old now = (k : ℕ) → i ≤ k → slice_get now k ≡ slice_get old k

pub untouched_more : {A : Type 0} (i : ℕ) (old now now' : List A) (y : A) → Untouched i old now → now' ≡ slice_set now i y → Untouched (i + 1) old now'
untouched_more i old now now' y h set = λ k late. let was = h k (omega arith) in grind (arith, common_steps, gets)

-- the first places of a list with the next one
pub next_taken : {A : Type 0} (xs : List A) (i : ℕ) (x : A) → slice_get xs i ≡ Some x → take (i + 1) xs ≡ take i xs ++ x ∷ []
next_taken xs i x at = take_more xs i x (slice_get_within xs i x at) ∙ ap (λ y. take i xs ++ y ∷ []) (get_or_from_slice_get xs i x x at)

-- the numbers of the connections up to a place, and of the next one where it is told
pub number_told : (told : Bool) (i : ℕ) (old new : List ℕ) → new ≡ old ++ (if told then (i + 1) ∷ [] else []) → AreNumbers i old → AreNumbers (i + 1) new
number_told told i old new e h =
    let few = h.few in
    rw e (record {
      few = grind (arith, length-append);
      each = All-append (IsNumber (i + 1)) old (if told then (i + 1) ∷ [] else [])
          (All-weaker (IsNumber i) (IsNumber (i + 1)) (λ n is. let last = is.last in record { first = is.first; last = omega arith }) old h.each) (grind arith);
    })
