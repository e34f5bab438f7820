-- What readers of a line's fields answer.
use Rattle.std.specs.Prelude.{◌≡◌, ℕ, List, [], ◌∷◌, Option, Some, None, Result, Ok, Err, MatchResult}
use denote.Ref.{Bor}
use Rattle.schedule_file.specs.declared.line_cause.LineCause.{LineCause}
use Rattle.schedule_file.specs.declared.line_cause.LineCause.TheVariants as cause
use Rattle.schedule_file.specs.Field.{fields_of}

-- a call answers as a definition says: what it changed is then the value that is said, or it gives the cause
abbrev pub Becomes : {A B : Type 0} → Result B LineCause → A → Result A LineCause → Type 0
Becomes result new said = MatchResult result (λ _. said ≡ Ok new) (λ cause. said ≡ Err cause)

-- a part of a line that is the field that is said
abbrev pub IsField : Result (Bor (List ℕ)) LineCause → Result (List ℕ) LineCause → Type 0
IsField result said = MatchResult result (λ field. said ≡ Ok field.now) (λ cause. said ≡ Err cause)

-- why fields aren't one in hexadecimal: there isn't one, or it isn't
abbrev pub not_hex : List (List ℕ) → LineCause
not_hex (field ∷ []) = cause.Hex
not_hex [] = cause.Fields
not_hex (field ∷ next ∷ more) = cause.Fields

-- the fields after a space, where there is one
abbrev pub fields_after : Option (Bor (List ℕ)) → List (List ℕ)
fields_after None = []
fields_after (Some rest) = fields_of rest.now

-- parts of a line that are the field and those after it that are said
abbrev pub AreFields : Result (Bor (List ℕ) × Option (Bor (List ℕ))) LineCause → Result (List ℕ × List (List ℕ)) LineCause → Type 0
AreFields result said = MatchResult result (λ it. said ≡ Ok (it.0.now, fields_after it.1)) (λ cause. said ≡ Err cause)
