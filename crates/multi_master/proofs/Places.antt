-- Two lists side by side, at a place.
use Rattle.multi_master.proofs.Common.{All-get_or, AllZip, IsNumber, MasterView, common_steps, get_or_from_slice_get, length-map, settings_in, slice_get_read, slice_get_within}
use Rattle.std.proofs.Common.{◌≡◌, ℕ, zero, suc, ◌<◌, ◌-◌, List, [], ◌∷◌, map, length, All, slice_get, slice_set, slice_index_or, Some, refl, sym, ap, subst, ◌∙◌, arith}
use Rattle.std.proofs.lemmas.Option.{gets, slice_get-map}
use Rattle.std.proofs.Math.Seq.{map-set_same}

-- what is at a place of the first list goes with what is at that place of the second
pub record At {A B : Type 0} (R : A → B → Type 0) (xs : List A) (k : ℕ) (y : B) : Type 0 where
  pub there : A
  pub is : slice_get xs k ≡ Some there
  pub holds : R there y

pub at_place : {A B : Type 0} (R : A → B → Type 0) (xs : List A) (ys : List B) (k : ℕ) (y : B) → AllZip R xs ys → slice_get ys k ≡ Some y → At R xs k y
at_place R [] [] k y h e = cc
at_place R (a ∷ xs) (b ∷ ys) zero y h e = let i : b ≡ y = cc in record { there = a; is = refl; holds = subst (λ z. R a z) i h.0 }
at_place R (a ∷ xs) (b ∷ ys) (suc k) y h e = let p = at_place R xs ys k y h.1 e in record { there = p.there; is = p.is; holds = p.holds }
at_place R _ _ k y h e = absurd h

-- what stands at the place of a number, where numbers begin with 1
pub record Placed {X : Type 0} (xs : List X) (n place : ℕ) (x : X) : Type 0 where
  pub number : n ≡ suc place
  pub within : place < length xs
  pub at : slice_get xs place ≡ Some x

pub placed : {X : Type 0} (xs : List X) (count n from : ℕ) (x : X) → IsNumber count n → count ≡ length xs → from ≡ n → x ≡ slice_index_or xs (from - 1) x → Placed xs n (from - 1) x
placed xs count n from x h e i read = record { number = omega arith; within = omega arith; at = slice_get_read xs count (from - 1) x e (omega arith) read }

-- so the master of a connection stands at the place of its number
pub master_placed : (masters : List MasterView) (link from : ℕ) (m : MasterView) → IsNumber (length (map settings_in masters)) link → from ≡ link → m ≡ slice_index_or masters (from - 1) m → Placed masters link (from - 1) m
master_placed masters link from m h e read = placed masters _ link from m h (length-map masters settings_in) e read

-- both lists with others at a place
pub zip_set : {A B : Type 0} (R : A → B → Type 0) (xs : List A) (ys : List B) (k : ℕ) (x : A) (y : B) → AllZip R xs ys → R x y → AllZip R (slice_set xs k x) (slice_set ys k y)
zip_set R [] [] k x y h r = tt
zip_set R (a ∷ xs) (b ∷ ys) zero x y h r = (r, h.1)
zip_set R (a ∷ xs) (b ∷ ys) (suc k) x y h r = (h.0, zip_set R xs ys k x y h.1 r)
zip_set R _ _ k x y h r = absurd h

-- what holds of each is so at a place
pub all_at : {X : Type 0} (P : X → Type 0) (xs : List X) (k : ℕ) (x : X) → All P xs → slice_get xs k ≡ Some x → P x
all_at P xs k x h e = subst P (get_or_from_slice_get xs k x x e) (All-get_or P xs k x (slice_get_within xs k x e) h)

-- the same list where what stands at a place goes to the same as what stood there
pub map_set : {A B : Type 0} (f : A → B) (xs : List A) (k : ℕ) (x y : A) → slice_get xs k ≡ Some x → f y ≡ f x → map f (slice_set xs k y) ≡ map f xs
map_set f xs k x y e h = map-set_same f xs k y x (h ∙ ap f (sym (get_or_from_slice_get xs k x x e)))

-- at two lists that map to the same, what is at a place maps to the same
pub same_at : {A B C : Type 0} (f : A → C) (g : B → C) (xs : List A) (ys : List B) (k : ℕ) (x : A) (y : B) → map f xs ≡ map g ys → slice_get xs k ≡ Some x → slice_get ys k ≡ Some y → f x ≡ g y
same_at f g xs ys k x y h i j =
    let a = slice_get-map f xs k in
    let b = slice_get-map g ys k in
    grind (arith, common_steps)

-- what is set at a place is there
pub set_there : {A : Type 0} (xs : List A) (k : ℕ) (x y : A) → slice_get xs k ≡ Some x → slice_get (slice_set xs k y) k ≡ Some y
set_there xs k x y h = grind (arith, common_steps, gets)

-- there is something at each place of a list
pub some_at : {A : Type 0} (xs : List A) (k : ℕ) → k < length xs → (x : A) × (slice_get xs k ≡ Some x)
some_at [] k h = absurd (omega arith)
some_at (a ∷ xs) zero h = (a, refl)
some_at (a ∷ xs) (suc k) h = some_at xs k (omega arith)

-- lists that map to the same are as long
pub same_length : {A B C : Type 0} (f : A → C) (g : B → C) (xs : List A) (ys : List B) → map f xs ≡ map g ys → length xs ≡ length ys
same_length f g xs ys h = grind (arith, common_steps)
