-- What texts of hexadecimal digits say, and which texts say no bytes.
use Rattle.schedule_file.proofs.Common.{FromHexError, None, Ok, Result, Some, bytes_said, cases_lt, common_steps, decode_of, decode_of-ok, hex_digit_value, is_hex_digit, pair_value, some_bytes, true}
use Rattle.hex.specs.Hex.{decode_pairs}
use Rattle.std.proofs.Common.{◌≡◌, ℕ, ◌+◌, ◌*◌, ◌/◌, ◌%◌, ◌<◌, ◌≤◌, List, length, take, drop, slice_index, slice_set, bit_or, unwrap_or, arith, inl, inr, rules}
use Rattle.std.specs.Prelude.{◌⊎◌}
use Rattle.std.proofs.lemmas.Nat.{le_or_l, le_or_r, or_of_8}
use Rattle.hex.proofs.Pairs.{decode_step, prepend}

-- bytes that are as many as there may be
pub some_bytes-within : (most : ℕ) (bytes : List ℕ) → 0 < length bytes → length bytes ≤ most → some_bytes most (Ok bytes) ≡ Some bytes
some_bytes-within most bytes some le = grind arith

some_bytes-beyond : (most : ℕ) (bytes : List ℕ) → (length bytes ≡ 0) ⊎ (most < length bytes) → some_bytes most (Ok bytes) ≡ None
some_bytes-beyond most bytes h = grind arith

no_bytes : (most : ℕ) (r : Result (List ℕ) FromHexError) → ((bytes : List ℕ) → r ≡ Ok bytes → some_bytes most (Ok bytes) ≡ None) → some_bytes most r ≡ None
no_bytes most r h = grind arith

-- too few characters or too many say no bytes, nor does an odd number of them
pub other_count : (most : ℕ) (text : List ℕ) → (length text / 2 ≡ 0) ⊎ (most < length text / 2) → bytes_said most text ≡ None
other_count most text (inl none) = no_bytes most (decode_of text) (λ bytes e. some_bytes-beyond most bytes (inl (omega (arith, (decode_of-ok text bytes e).2))))
other_count most text (inr many) = no_bytes most (decode_of text) (λ bytes e. some_bytes-beyond most bytes (inr (omega (arith, (decode_of-ok text bytes e).2))))

-- what is looked up of a character
pub looked_up : (c : ℕ) → unwrap_or (hex_digit_value c) 256 ≤ 256
looked_up c = grind arith

digit_small : (c : ℕ) → is_hex_digit c ≡ true → unwrap_or (hex_digit_value c) 256 < 16
digit_small c digit = grind arith

-- two values that make a byte are those of digits
pair_read : (high low i h l : ℕ) → h ≡ unwrap_or (hex_digit_value high) 256 → l ≡ unwrap_or (hex_digit_value low) 256 → h * 16 + l < 256 → pair_value high low i ≡ Ok ((h * 16 + l) % 256)
pair_read high low i h l k m n = search rules

-- two values that make none say that a character is no digit
pair_refused : (text : List ℕ) (most i h l : ℕ) → 2 * i + 1 < length text → h ≡ unwrap_or (hex_digit_value (slice_index text (2 * i))) 256
    → l ≡ unwrap_or (hex_digit_value (slice_index text (2 * i + 1))) 256 → 256 ≤ h * 16 + l → bytes_said most text ≡ None
pair_refused text most i h l fits e f many =
    no_bytes most (decode_of text) (λ bytes is.
    let digits = (decode_of-ok text bytes is).1 in
    let high = digit_small (slice_index text (2 * i)) (digits (2 * i) 0 (omega arith)) in
    let low = digit_small (slice_index text (2 * i + 1)) (digits (2 * i + 1) 0 fits) in
    absurd (omega (arith, e, f, high, low)))

-- while all are digits, the bytes so far and those of the digits to come are all; else the text says no bytes
abbrev pub Reads : List ℕ → List ℕ → ℕ → ℕ → Type 0
Reads text out i seen =
    (seen < 256 → decode_pairs 0 text ≡ prepend (take i out) (decode_pairs (2 * i) (drop (2 * i) text))) × (256 ≤ seen → (most : ℕ) → bytes_said most text ≡ None)

pub one_read : (text out : List ℕ) (i seen h l : ℕ) → 2 * i + 1 < length text → i < length out → h ≡ unwrap_or (hex_digit_value (slice_index text (2 * i))) 256
    → l ≡ unwrap_or (hex_digit_value (slice_index text (2 * i + 1))) 256 → Reads text out i seen → Reads text (slice_set out i ((h * 16 + l) % 256)) (i + 1) (bit_or seen (h * 16 + l))
one_read text out i seen h l fits room e f so_far =
    let before = le_or_l seen (h * 16 + l) in
    let here = le_or_r seen (h * 16 + l) in (
      λ few.
          let pair = pair_read (slice_index text (2 * i)) (slice_index text (2 * i + 1)) (2 * i) h l e f (omega (arith, here, few)) in
          decode_step text out i ((h * 16 + l) % 256) fits room pair (so_far.0 (omega (arith, before, few))),
      λ many most.
          elim (cases_lt seen 256) [
            | inl small ↦ pair_refused text most i h l fits e f (at_least seen (h * 16 + l) small many)
            | inr large ↦ so_far.1 large most
          ],
    )
  where
    at_least : (a b : ℕ) → a < 256 → 256 ≤ bit_or a b → 256 ≤ b
    at_least a b small many = search (rules, or_of_8)

-- the bytes of all pairs are said
pub all_read : (most count : ℕ) (text out : List ℕ) → length text ≡ 2 * count → 0 < count → count ≤ most → count ≤ length out
    → decode_pairs 0 text ≡ prepend (take count out) (decode_pairs (2 * count) (drop (2 * count) text)) → Some (take count out) ≡ bytes_said most text
unfolding decode_pairs
all_read most count text out h k l m n = grind (arith, common_steps)
