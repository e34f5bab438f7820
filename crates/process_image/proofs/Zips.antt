-- Two lists side by side, at a place.
use Rattle.process_image.proofs.Common.{All-get_or, AllZip, AllZip-right, IsSomeAnd, get_or_from_slice_get, map-set_same, slot_numbered, slice_get_within}
use Rattle.std.proofs.Common.{◌≡◌, ℕ, zero, suc, List, map, slice_get, slice_set, All, Option, None, Some, refl, sym, ap, subst, ◌∙◌, rules}

-- there is something that has this property
pub record There {A : Type 0} (o : Option A) (P : A → Type 0) : Type 0 where
  pub there : A
  pub is : o ≡ Some there
  pub holds : P there

pub is_there : {A : Type 0} (o : Option A) (P : A → Type 0) → IsSomeAnd o P → There o P
is_there None P h = absurd h
is_there (Some x) P h = record { there = x; is = refl; holds = h }

-- what is of a number of the first list, from 1, goes with what is of that number of the second
pub at_number : {A B : Type 0} (R : A → B → Type 0) (xs : List A) (ys : List B) (slot : ℕ) (y : B) → AllZip R xs ys → slot_numbered slot ys ≡ Some y → There (slot_numbered slot xs) (λ x. R x y)
at_number R xs ys zero y h e = absurd (cc e)
at_number R xs ys (suc k) y h e = is_there (slice_get xs k) (λ x. R x y) (rw e at (AllZip-right R xs ys h k))

-- all have a property still, where another stands at a place that has it
pub all_set : {A : Type 0} (P : A → Type 0) (xs : List A) (k : ℕ) (y : A) → All P xs → P y → All P (slice_set xs k y)
all_set P xs k y h l = search rules

-- what is at a place has the property of all
pub all_at : {A : Type 0} (P : A → Type 0) (xs : List A) (k : ℕ) (x : A) → All P xs → slice_get xs k ≡ Some x → P x
all_at P xs k x h e = subst P (get_or_from_slice_get xs k x x e) (All-get_or P xs k x (slice_get_within xs k x e) h)

-- the same list where what stands at a place goes to the same as what stood there
pub map_set : {A B : Type 0} (f : A → B) (xs : List A) (k : ℕ) (x y : A) → slice_get xs k ≡ Some x → f y ≡ f x → map f (slice_set xs k y) ≡ map f xs
map_set f xs k x y e h = map-set_same f xs k y x (h ∙ ap f (sym (get_or_from_slice_get xs k x x e)))
