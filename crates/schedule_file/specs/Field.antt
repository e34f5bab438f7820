-- The fields of a line, and what one field says.
use Rattle.std.specs.Prelude.{ℕ, ◌==◌, ◌&&◌, ◌||◌, nat_le, nat_lt, length, slice_index, Bool, List, [], ◌∷◌, Option, Some, None, Result, Ok, Err, if◌then◌else◌}
use Rattle.std.specs.List.{slice_split}
use Rattle.std.specs.Str.{all_ascii_digits, bytes_eq}
use Rattle.std.specs.Str.Parse.{digits_value}
use Rattle.hex.specs.Hex.{decode_of}
use Rattle.hex.specs.declared.error.FromHexError.{FromHexError}

-- the byte between two fields
abbrev pub is_space : ℕ → Bool
is_space b = b == 32

-- a line is cut at each single space, so a field may be empty
abbrev pub fields_of : List ℕ → List (List ℕ)
fields_of line = slice_split is_space line

-- what stands beside this text in a table of words, the first if there are several
abbrev pub word_in : {T : Type 0} → List (List ℕ × T) → List ℕ → Option T
word_in [] text = None
word_in ((word, meaning) ∷ words) text = if bytes_eq text word then Some meaning else word_in words text

-- a number is digits with no leading zero, or just 0
abbrev pub is_number : List ℕ → Bool
is_number text = nat_lt 0 (length text) && all_ascii_digits text && (length text == 1 || nat_lt 48 (slice_index text 0))

-- the number that a field says, where it is at most `most`
abbrev pub number_said : ℕ → List ℕ → Option ℕ
number_said most text = if is_number text && nat_le (digits_value 10 text) most then Some (digits_value 10 text) else None

-- bytes that are from one to `most`
abbrev pub some_bytes : ℕ → Result (List ℕ) FromHexError → Option (List ℕ)
some_bytes most (Ok bytes) = if nat_lt 0 (length bytes) && nat_le (length bytes) most then Some bytes else None
some_bytes most (Err e) = None

-- the bytes that a field says in hexadecimal, where they are from one to `most`
abbrev pub bytes_said : ℕ → List ℕ → Option (List ℕ)
bytes_said most text = some_bytes most (decode_of text)
