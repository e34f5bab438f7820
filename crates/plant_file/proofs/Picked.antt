-- What is picked by its name is there, and it is picked alike out of what contracts see.
use Rattle.std.proofs.Common.{◌≡◌, ◌<◌, ◌+◌, ℕ, zero, suc, Bool, true, false, List, [], ◌∷◌, length, map, cond, refl, arith, ap, ◌∙◌, rules}
use Rattle.std.specs.Prelude.{Option, Some, option_map}
use Rattle.std.specs.List.{position_from, remove}
use Rattle.std.specs.Str.{bytes_eq}
use Rattle.std.proofs.lemmas.List.{length-map}
use Rattle.std.proofs.lemmas.Option.{slice_get-map}
use Rattle.plant_setup.specs.Names.{name_place, IsTaken}
use Rattle.plant_setup.specs.Setup.{ChosenBy, IsChosen}

within_by : (b : Bool) (k n len : ℕ) (rest : Option ℕ) → cond b (Some k) rest ≡ Some n → (rest ≡ Some n → n < (k + 1) + len) → n < k + suc len
within_by b k n len rest h l = grind arith

within_from : {X : Type 0} (t : X → Bool) (k n : ℕ) (xs : List X) → position_from t k xs ≡ Some n → n < k + length xs
within_from t k n [] e = cc
within_from t k n (x ∷ xs) e = within_by (t x) k n (length xs) (position_from t (k + 1) xs) e (λ r. within_from t (k + 1) n xs r)

-- a place that was found is one of the list's
pub within : {X : Type 0} (name_of : X → List ℕ) (name : List ℕ) (xs : List X) (n : ℕ) → name_place name (map name_of xs) ≡ Some n → n < length xs
within name_of name xs n e = let below = within_from (λ own. bytes_eq own name) 0 n (map name_of xs) e in omega (arith, below, length-map xs name_of)

map_removed : {X Y : Type 0} (f : X → Y) (xs : List X) (place : ℕ) → map f (remove xs place) ≡ remove (map f xs) place
map_removed f (x ∷ xs) (suc place) = ap (λ (ys : List _). f x ∷ ys) (map_removed f xs place)
map_removed f [] zero = refl
map_removed f _ _ = refl

pub map_twice : {X Y Z : Type 0} (f : X → Y) (g : Y → Z) (xs : List X) → map g (map f xs) ≡ map (λ x. g (f x)) xs
map_twice f g [] = refl
map_twice f g (x ∷ xs) = ap (λ (ys : List _). g (f x) ∷ ys) (map_twice f g xs)

taken_seen : {X Y : Type 0} (f : X → Y) (name_of : Y → List ℕ) (name : List ℕ) (all left : List X) (one : X)
    → IsTaken (λ x. name_of (f x)) name all one left → IsTaken name_of name (map f all) (f one) (map f left)
taken_seen f name_of name all left one t = record {
  place = t.place;
  first = ap (name_place name) (map_twice f name_of all) ∙ t.first;
  one_is = slice_get-map f all t.place ∙ ap (option_map f) t.one_is;
  left_is = ap (map f) t.left_is ∙ map_removed f all t.place;
}

chosen_by_seen : {X Y : Type 0} (b : Bool) (f : X → Y) (name_of : Y → List ℕ) (app : List ℕ) (all left : List X) (IsNet IsNet' : Type 0) (IsOne : X → Type 0) (IsOne' : Y → Type 0)
    → (IsNet → IsNet') → ((x : X) → IsOne x → IsOne' (f x)) → ChosenBy b (λ x. name_of (f x)) app all left IsNet IsOne
    → ChosenBy b name_of app (map f all) (map f left) IsNet' IsOne'
chosen_by_seen true f name_of app all left IsNet IsNet' IsOne IsOne' net own chosen = (net chosen.0, ap (map f) chosen.1)
chosen_by_seen false f name_of app all left IsNet IsNet' IsOne IsOne' net own chosen =
    (f chosen.0, taken_seen f name_of app all left chosen.0 chosen.1, own chosen.0 chosen.2)

-- an application that was chosen of entries was chosen so of what is seen of them
pub chosen_seen : {X Y : Type 0} (f : X → Y) (name_of : Y → List ℕ) (app : List ℕ) (all left : List X) (IsNet IsNet' : Type 0) (IsOne : X → Type 0) (IsOne' : Y → Type 0)
    → (IsNet → IsNet') → ((x : X) → IsOne x → IsOne' (f x)) → IsChosen (λ x. name_of (f x)) app all left IsNet IsOne
    → IsChosen name_of app (map f all) (map f left) IsNet' IsOne'
chosen_seen f name_of app all left IsNet IsNet' IsOne IsOne' h k l = search (rules, chosen_by_seen)
