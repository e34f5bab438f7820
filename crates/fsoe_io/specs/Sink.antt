-- What a write does to the bytes that a sink tells, and how many may wait in front of one.
use Rattle.std.specs.Prelude.{◌≡◌, ℕ, List, ◌++◌, ⊤, None, Some}
use Rattle.std.specs.declared.option.Option.{Option}

-- what is told now was told before, and grew by these bytes
abbrev pub Grew : Option (List ℕ) → Option (List ℕ) → List ℕ → Type 0
Grew old None bytes = ⊤
Grew None (Some new) bytes = ⊥
Grew (Some old) (Some new) bytes = new ≡ old ++ bytes

-- the most bytes that wait
abbrev pub most_waiting : ℕ
most_waiting = 4096
