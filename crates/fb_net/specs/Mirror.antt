-- Inputs as outputs.
use Rattle.std.specs.Prelude.{ℕ, ◌-◌, List, [], ◌∷◌, ◌++◌, length, take, drop, replicate, get_or}

-- bytes as far as a length goes, and zeros behind them
abbrev pub mirrored : List ℕ → ℕ → List ℕ
mirrored xs n = take n xs ++ replicate (n - length xs) 0

-- the inputs of each connection, at the lengths of its outputs; zeros where there is no input
abbrev pub mirror_images : List (List ℕ) → List ℕ → List (List ℕ)
mirror_images inputs [] = []
mirror_images inputs (n ∷ ns) = mirrored (get_or inputs 0 []) n ∷ mirror_images (drop 1 inputs) ns
