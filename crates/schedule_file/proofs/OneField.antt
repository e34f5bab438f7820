-- There is a field after each space.
use Rattle.schedule_file.proofs.Common.{Err, fields_of, is_space, length-slice_split, no_field, one_field}
use Rattle.std.proofs.Common.{◌≡◌, ℕ, ◌+◌, List, [], ◌∷◌, length, refl, arith}
use Rattle.schedule_file.specs.declared.line_cause.LineCause.TheVariants as cause

-- a text that is cut has a first part
pub some_part : (parts : List (List ℕ)) (n : ℕ) → length parts ≡ n + 1 → (first : List ℕ) × (rest : List (List ℕ)) × (parts ≡ first ∷ rest)
some_part [] n e = absurd (omega arith)
some_part (first ∷ rest) n e = (first, rest, refl)

pub one_field_two : (field text : List ℕ) → one_field (field ∷ fields_of text) ≡ Err cause.Fields
one_field_two field text = rw (some_part (fields_of text) _ (length-slice_split is_space text)).2 refl

pub no_field_some : (text : List ℕ) → no_field (fields_of text) ≡ Err cause.Fields
no_field_some text = rw (some_part (fields_of text) _ (length-slice_split is_space text)).2 refl
