-- The whole lines of an input.
use Rattle.std.specs.Prelude.{◌≡◌, ℕ, ◌+◌, ◌≤◌, List, [], ◌∷◌, ◌++◌, length, All}
use Rattle.std.specs.declared.option.Option.{Option}
use Rattle.std.specs.Io.KnownBytes.{Consumes, prepend_known}
use Rattle.fsoe_io.specs.Line.{IsLine, most_held}

-- lines, each with its newline
abbrev pub with_newlines : List (List ℕ) → List ℕ
with_newlines [] = []
with_newlines (line ∷ lines) = (line ++ 10 ∷ []) ++ with_newlines lines

-- so many whole lines were taken from what was to come, and the rest is to come now
pub record TookLines (count : ℕ) (old new : Option (List ℕ)) : Type 0 where
  pub lines : List (List ℕ)
  pub each : All IsLine lines
  pub counts : length lines ≡ count
  pub taken : Consumes old new (with_newlines lines)

-- so many whole lines were taken from a source, and what else was read of it a reader holds
pub record ReadsTo (lines : ℕ) (old left : Option (List ℕ)) : Type 0 where
  pub held : List ℕ
  pub most : length held ≤ most_held
  pub took : TookLines lines old (prepend_known held left)

-- of the lines after the one of this number nothing was read but what a reader holds
abbrev pub ReadsUpTo : ℕ → Option (List ℕ) → Option (List ℕ) → Type 0
ReadsUpTo line old left = (lines : ℕ) × (lines ≤ line) × (line ≤ lines + 1) × ReadsTo lines old left
