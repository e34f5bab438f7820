-- Lines, and how much a reader of lines holds.
use Rattle.std.specs.Prelude.{◌≡◌, ℕ, ◌==◌, ◌≤◌, Bool, false, List, length, All}

-- the byte that ends a line
abbrev pub is_newline : ℕ → Bool
is_newline b = b == 10

-- no byte ends a line
abbrev pub HasNoNewline : List ℕ → Type 0
HasNoNewline bytes = All (λ b. is_newline b ≡ false) bytes

-- what stands before a newline, and isn't too long
abbrev pub IsLine : List ℕ → Type 0
IsLine bytes = (length bytes ≤ 640) × HasNoNewline bytes

-- the most bytes that a reader holds
abbrev pub most_held : ℕ
most_held = 4096
