-- Connection ids that stand twice.
use Rattle.std.specs.Option.{option_or}
use Rattle.std.specs.Prelude.{ℕ, suc, ◌==◌, List, [], ◌∷◌, Option, Some, None, option_map, if◌then◌else◌}

-- the place of this id in a list of ids, which is counted from k on
abbrev pub place_of : ℕ → ℕ → List ℕ → Option ℕ
place_of id k [] = None
place_of id k (x ∷ xs) = if x == id then Some k else place_of id (suc k) xs

-- the first place whose id stands again at a later one, and the first such, counted from k on
abbrev pub same_conn : ℕ → List ℕ → Option (ℕ × ℕ)
same_conn k [] = None
same_conn k (x ∷ xs) = option_or (option_map (λ b. (k, b)) (place_of x (suc k) xs)) (same_conn (suc k) xs)
