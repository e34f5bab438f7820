-- A line of bytes that are written, of which the digits are read first.
use Rattle.image_file.proofs.Common.{Err, LineCause, Ok, Result, bytes_said, fields_of, next_field, number_16, one_hex_field, value_or, write_behind, write_line, written_at}
use Rattle.schedule_file.specs.Fields.{◌>>=◌}
use Rattle.std.proofs.Common.{◌≡◌, ℕ, List, ap, ◌∙◌, arith, rules}
use Rattle.schedule_file.proofs.HexAlone.{said_alone, unsaid_alone}
use Rattle.schedule_file.specs.FieldsRead.{not_hex}
use Rattle.schedule_file.specs.declared.line_cause.LineCause.TheVariants as cause
use Rattle.image_file.specs.Said.{not_written, cause_or}

-- the fields behind a place
pub placed : (size : ℕ) (fields behind : List (List ℕ)) (place : List ℕ) → next_field fields ≡ Ok (place, behind) → write_line size fields ≡ write_behind size place behind
placed size fields behind place e = ap (λ (r : Result (List ℕ × List (List ℕ)) LineCause). r >>= (λ place. write_behind size place.0 place.1)) e

said : (size : ℕ) (place digits bytes : List ℕ) → value_or cause.Hex (bytes_said 256 digits) ≡ Ok bytes → write_behind size place (fields_of digits) ≡ (number_16 place >>= written_at size bytes)
said size place digits bytes h = grind (arith, said_alone)

-- bytes from a place on, inside the image or not
pub written : (size at : ℕ) (place digits bytes : List ℕ) → value_or cause.Hex (bytes_said 256 digits) ≡ Ok bytes → number_16 place ≡ Ok at → write_behind size place (fields_of digits) ≡ written_at size bytes at
written size at place digits bytes h n = said size place digits bytes h ∙ ap (λ (r : Result ℕ LineCause). r >>= written_at size bytes) n

pub unplaced : (size : ℕ) (place digits bytes : List ℕ) (why : LineCause) → value_or cause.Hex (bytes_said 256 digits) ≡ Ok bytes → number_16 place ≡ Err why
    → write_behind size place (fields_of digits) ≡ Err why
unplaced size place digits bytes why h n = said size place digits bytes h ∙ ap (λ (r : Result ℕ LineCause). r >>= written_at size bytes) n

unsaid-at : (size : ℕ) (at : Result ℕ LineCause) (digits : List ℕ) → value_or cause.Hex (bytes_said 256 digits) ≡ Err cause.Hex
    → (at >>= (λ at. value_or cause.Hex (bytes_said 256 digits) >>= (λ bytes. written_at size bytes at))) ≡ Err (cause_or cause.Hex at)
unsaid-at size at digits h = grind arith

unsaid-behind : (size : ℕ) (place : List ℕ) (fields : List (List ℕ)) → one_hex_field 256 fields ≡ Err (not_hex fields) → write_behind size place fields ≡ Err (not_written place fields)
unsaid-behind size place fields h = search (rules, unsaid-at)

pub unsaid : (size : ℕ) (place digits : List ℕ) (why : LineCause) → value_or cause.Hex (bytes_said 256 digits) ≡ Err why → write_behind size place (fields_of digits) ≡ Err (not_written place (fields_of digits))
unsaid size place digits why h = unsaid-behind size place (fields_of digits) (unsaid_alone 256 digits why h)
