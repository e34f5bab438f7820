-- The application that runs under a name which isn't that of the net.
use Rattle.std.proofs.Common.{◌≡◌, ℕ, false, List, map, Some, None, arith}
use Rattle.std.specs.Prelude.{Option, MatchOption}
use Rattle.plant_setup.specs.Names.{name_place, IsTaken}
use Rattle.plant_setup.specs.Setup.{is_net, app_name_fault, IsChosen}

-- it is the one that was taken, and no fault
pub chosen_named : {X : Type 0} (name_of : X → List ℕ) (app name : List ℕ) (all : List X) (told : Option X) (one : X) (left : List X) (IsNet : Type 0) (IsOne : X → Type 0)
    → is_net app ≡ false → name ≡ app → told ≡ Some one
    → MatchOption told ((name_place name (map name_of all) ≡ None) × (left ≡ all)) (λ x. IsTaken name_of name all x left) → IsOne one
    → (app_name_fault app (map name_of all) ≡ None) × IsChosen name_of app all left IsNet IsOne
chosen_named name_of app name all told one left IsNet IsOne h k l m n = grind arith
