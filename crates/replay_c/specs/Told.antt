-- What memory that is written from its front tells.
use Rattle.std.specs.Prelude.{ℕ, List, ◌∷◌, ◌++◌, length}

-- the name of the memory, how many bytes it has, and what they were before the first was written; and then the bytes
-- that were
abbrev pub told : ℕ → List ℕ → List ℕ → List ℕ
told name before written = name ∷ length before ∷ before ++ written
