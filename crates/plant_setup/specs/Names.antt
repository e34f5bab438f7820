-- What is picked by its name.
use Rattle.std.specs.Prelude.{◌≡◌, ℕ, List, map, slice_get, Option, Some}
use Rattle.std.specs.List.{position_from, remove}
use Rattle.std.specs.Str.{bytes_eq}

-- the place, from 0, of the first of these names that is this one
abbrev pub name_place : List ℕ → List (List ℕ) → Option ℕ
name_place name names = position_from (λ own. bytes_eq own name) 0 names

-- of these, each of which has a name, the first of this name was taken, and the others are left in their order
pub record IsTaken {X : Type 0} (name_of : X → List ℕ) (name : List ℕ) (all : List X) (one : X) (left : List X) : Type 0 where
  pub place : ℕ
  pub first : name_place name (map name_of all) ≡ Some place
  pub one_is : slice_get all place ≡ Some one
  pub left_is : left ≡ remove all place
