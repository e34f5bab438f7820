-- The steps by which a line is read: each gives a value, or the cause for which the line is refused. The first two
-- serve for other causes too.
use Rattle.std.specs.Prelude.{List, [], ◌∷◌, ℕ, Option, Some, None, Result, Ok, Err}
use Rattle.schedule_file.specs.Field.{number_said, bytes_said}
use Rattle.schedule_file.specs.declared.line_cause.LineCause.{LineCause}
use Rattle.schedule_file.specs.declared.line_cause.LineCause.TheVariants as cause

-- the next step, where this one gave a value
infixl 10 ◌>>=◌
abbrev pub ◌>>=◌ : {A B E : Type 0} → Result A E → (A → Result B E) → Result B E
Ok x >>= f = f x
Err e >>= f = Err e

-- a value, or the cause for want of it
abbrev pub value_or : {A E : Type 0} → E → Option A → Result A E
value_or cause (Some x) = Ok x
value_or cause None = Err cause

-- what is made of the value, where there is one
abbrev pub map_ok : {A B : Type 0} → (A → B) → Result A LineCause → Result B LineCause
map_ok f (Ok x) = Ok (f x)
map_ok f (Err e) = Err e

-- what is said by the first field, a word, and those after it; without a field the line is refused for this cause
abbrev pub by_word : {A : Type 0} → LineCause → (List ℕ → List (List ℕ) → Result A LineCause) → List (List ℕ) → Result A LineCause
by_word cause said [] = Err cause
by_word cause said (word ∷ fields) = said word fields

-- a field and those after it
abbrev pub next_field : List (List ℕ) → Result (List ℕ × List (List ℕ)) LineCause
next_field [] = Err cause.Fields
next_field (field ∷ fields) = Ok (field, fields)

-- no further field
abbrev pub no_field : List (List ℕ) → Result (Unit {0}) LineCause
no_field [] = Ok tt
no_field (field ∷ fields) = Err cause.Fields

-- the only field
abbrev pub one_field : List (List ℕ) → Result (List ℕ) LineCause
one_field (field ∷ []) = Ok field
one_field [] = Err cause.Fields
one_field (field ∷ next ∷ more) = Err cause.Fields

-- a number of 16 bits
abbrev pub number_16 : List ℕ → Result ℕ LineCause
number_16 text = value_or cause.Number (number_said 65535 text)

-- a number of 32 bits
abbrev pub number_32 : List ℕ → Result ℕ LineCause
number_32 text = value_or cause.Number (number_said 4294967295 text)

-- the bytes that the only field says in hexadecimal, from one to `most`
abbrev pub one_hex_field : ℕ → List (List ℕ) → Result (List ℕ) LineCause
one_hex_field most fields = do
  field ← one_field fields
  value_or cause.Hex (bytes_said most field)
