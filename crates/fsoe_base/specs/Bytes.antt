-- How numbers stand in bytes, and bytes that carry nothing.
use Rattle.std.specs.Prelude.{ℕ, ◌==◌, ◌/◌, ◌%◌, Bool, List, [], ◌∷◌}
use Rattle.std.specs.List.{list_all}

-- a number of 16 bits in two bytes, low byte first
abbrev pub low_high : ℕ → List ℕ
low_high n = n % 256 ∷ n / 256 ∷ []

-- each byte is 0, as padding is, and the data of a FailSafeData frame
abbrev pub all_zero : List ℕ → Bool
all_zero bytes = list_all (λ b. b == 0) bytes
