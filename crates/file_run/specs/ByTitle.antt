-- Which of two holds of a run: the first line of its input decides.
use Rattle.std.specs.Prelude.{◌≡◌, ℕ, List, Option, Ok, IfSome, ◌⊎◌, Result, ◌∷◌, [], Err}
use Rattle.schedule_file.specs.Input.{lines_of, NoLine, InputCause}

-- the first of these lines, or why there is none
abbrev pub first_line : List (Result (List ℕ) InputCause) → Result (List ℕ) InputCause
first_line [] = Err NoLine
first_line (line ∷ rest) = line

-- the first line of an input is this title
abbrev pub IsTitled : List ℕ → List ℕ → Type 0
IsTitled title input = first_line (lines_of input) ≡ Ok title

-- one of both holds of a run; where its input is told, the one of these that its first line decides
pub record ByTitle (title : List ℕ) (told : Option (List ℕ)) (titled plain : Type 0) : Type 0 where
  pub one : titled ⊎ plain
  pub with_title : IfSome told (λ input. IsTitled title input → titled)
  pub without : IfSome told (λ input. ¬ (IsTitled title input) → plain)
