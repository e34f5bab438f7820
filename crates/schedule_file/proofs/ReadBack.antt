-- The line of an event is read as that event.
use Rattle.schedule_file.proofs.Common.{All-cons, All-nil, End, Event, EventWord, Fits, IsBytes, IsOfTypes, MOST_DATA, MOST_FRAME, Ok, Profile, Some, all_ascii_digits, altered_line, and_parts, bytes_said, cases_lt, decimal, decimal_digit, decimal_nonempty, decode_of-encode_lower, decode_of-ok, delivered_len, digits_decimal, digits_value, digits_value-decimal, encode_lower, end_letter, event_text, fields_of, first_decimal, is_ascii_digit, is_hex_digit, is_space, join_with_byte, map_ok, nat_tests, number_said, numerals_by_value, pair_event, pair_line, pair_said, reference_of, reference_text, slice_split_at, slice_split_none, some_bytes, switch_of, switch_text, tells_all_ascii_digits}
use Rattle.std.proofs.Common.{◌≡◌, ℕ, ◌<◌, ◌≤◌, ◌^◌, Bool, true, false, List, [], ◌∷◌, length, get_or, All, inl, inr, refl, ap, ◌∙◌, arith, rules}
use Rattle.std.specs.Prelude.{◌⊎◌}
use Rattle.fsoe_base.specs.declared.command.End.TheVariants as side
use Rattle.schedule_file.proofs.HexDigits.{some_bytes-within}
use Rattle.schedule_file.specs.declared.event_line.EventWord.TheVariants as word
use Rattle.schedule_file.specs.declared.event.Event.TheVariants as event
use Rattle.schedule_file.specs.declared.event.ScheduleLine.TheVariants as line

-- no space stands in a text
abbrev pub HasNoSpace : List ℕ → Type 0
HasNoSpace text = All (λ b. is_space b ≡ false) text

spaceless-more : (c : ℕ) (text : List ℕ) → is_space c ≡ false → HasNoSpace text → HasNoSpace (c ∷ text)
spaceless-more c text e none = All-cons (λ b. is_space b ≡ false) c text e none

abbrev HaveNoSpaces : List (List ℕ) → Type 0
HaveNoSpaces [] = Unit {0}
HaveNoSpaces (field ∷ fields) = HasNoSpace field × HaveNoSpaces fields

-- fields that are joined by spaces are cut there again
fields_joined : (first : List ℕ) (fields : List (List ℕ)) → HaveNoSpaces (first ∷ fields) → fields_of (join_with_byte 32 (first ∷ fields)) ≡ first ∷ fields
fields_joined first [] none = slice_split_none is_space first none.0
fields_joined first (next ∷ fields) none =
    slice_split_at is_space first 32 (join_with_byte 32 (next ∷ fields)) none.0 refl ∙ ap (λ (z : List (List ℕ)). first ∷ z) (fields_joined next fields none.1)

-- a decimal number is read as its value
number_said-numeral : (most n : ℕ) (text : List ℕ) → 0 < length text → all_ascii_digits text ≡ true → (length text ≡ 1) ⊎ (48 < get_or text 0 0)
    → digits_value 10 text ≡ n → n ≤ most → number_said most text ≡ Some n
number_said-numeral most n text h k l m o = grind arith

begins : (n : ℕ) → n < 2 ^ 64 → (length (decimal n) ≡ 1) ⊎ (48 < get_or (decimal n) 0 0)
begins n lt = elim (cases_lt 0 n) [
  | inl positive ↦ inr (first_decimal n positive lt)
  | inr none ↦ inl (ap length (decimal_digit n (omega arith)))
]

pub digits-decimal : (n : ℕ) → n < 2 ^ 64 → all_ascii_digits (decimal n) ≡ true
digits-decimal n lt = digits_decimal (numerals_by_value _ tells_all_ascii_digits) n lt

pub number_said-decimal : (most n : ℕ) → n < 2 ^ 64 → n ≤ most → number_said most (decimal n) ≡ Some n
number_said-decimal most n lt le =
    number_said-numeral most n (decimal n) (decimal_nonempty n lt) (digits-decimal n lt) (begins n lt) (digits_value-decimal (numerals_by_value _ tells_all_ascii_digits) n lt) le

no_space-digit : (c : ℕ) → is_ascii_digit c ≡ true → is_space c ≡ false
no_space-digit c h = grind arith

no_space-digits : (text : List ℕ) → all_ascii_digits text ≡ true → HasNoSpace text
no_space-digits [] h = All-nil _
no_space-digits (c ∷ text) h =
    let parts = and_parts (is_ascii_digit c) (all_ascii_digits text) h in
    spaceless-more c text (no_space-digit c parts.0) (no_space-digits text parts.1)

pub no_space-decimal : (n : ℕ) → n < 2 ^ 64 → HasNoSpace (decimal n)
no_space-decimal n lt = no_space-digits (decimal n) (digits-decimal n lt)

-- hexadecimal digits are read as the bytes that they were made of
no_space-hex_at : (c : ℕ) (b : Bool) → is_space c ≡ b → is_hex_digit c ≡ true → b ≡ false
no_space-hex_at c b h k = search rules

no_space-hex : (bytes : List ℕ) → IsBytes bytes → HasNoSpace (encode_lower bytes)
no_space-hex bytes are =
    λ k d lt. no_space-hex_at (get_or (encode_lower bytes) k d) _ refl ((decode_of-ok (encode_lower bytes) bytes (decode_of-encode_lower bytes are)).1 k d lt)

bytes_said-hex : (most : ℕ) (bytes : List ℕ) → IsBytes bytes → 0 < length bytes → length bytes ≤ most → bytes_said most (encode_lower bytes) ≡ Some bytes
bytes_said-hex most bytes are some le = ap (some_bytes most) (decode_of-encode_lower bytes are) ∙ some_bytes-within most bytes some le

one_byte : (mask : ℕ) → mask < 256 → IsBytes (mask ∷ [])
one_byte mask lt = λ i. grind (arith, nat_tests)

reference_of-text : (back : ℕ) → 0 < back → back ≤ 64 → reference_of (reference_text back) ≡ Some back
reference_of-text back h k = search (rules, number_said-decimal)

no_space-reference : (back : ℕ) → back ≤ 64 → HasNoSpace (reference_text back)
no_space-reference back le = spaceless-more 45 (decimal back) refl (no_space-decimal back (omega arith))

switch_of-text : (on : Bool) → switch_of (switch_text on) ≡ Some on
switch_of-text on = grind arith

no_space-switch : (on : Bool) → HasNoSpace (switch_text on)
no_space-switch on = grind arith

-- what the fields after the word say
altered_read : (delivered : ℕ) (to : End) (back pos mask : ℕ) (reference place digits : List ℕ)
    → number_said 65535 place ≡ Some pos → reference_of reference ≡ Some back → bytes_said 1 digits ≡ Some (mask ∷ []) → pos < delivered
    → altered_line to delivered (reference ∷ place ∷ digits ∷ []) ≡ Ok (event.Altered to back pos mask)
altered_read delivered to back pos mask reference place digits e f g lt = rw (e, f, g) (grind (arith, nat_tests))

-- a line says what its word says with the fields after it
word_read : (sends : End → ℕ) (profiles : End → Profile) (first : ℕ) (word : EventWord) (at : End) (fields : List (List ℕ)) → is_space first ≡ false
    → pair_said sends profiles (first ∷ end_letter side.Master) fields ≡ map_ok line.Step (pair_event sends profiles (word, side.Master) fields)
    → pair_said sends profiles (first ∷ end_letter side.Slave) fields ≡ map_ok line.Step (pair_event sends profiles (word, side.Slave) fields) → HaveNoSpaces fields
    → pair_line sends profiles (join_with_byte 32 ((first ∷ end_letter at) ∷ fields)) ≡ map_ok line.Step (pair_event sends profiles (word, at) fields)
word_read sends profiles first word at fields h k l m = search (rules, fields_joined)

pub read_back : (sends : End → ℕ) (profiles : End → Profile) (event : Event) → IsOfTypes event → Fits sends profiles event → pair_line sends profiles (event_text event) ≡ Ok (line.Step event)
read_back sends profiles (event.Deliver to back) typed fits =
    word_read sends profiles 100 word.Deliver to (reference_text back ∷ []) refl refl refl (no_space-reference back fits.0.1, tt)
    ∙ rw (reference_of-text back fits.0.0 fits.0.1) refl
read_back sends profiles (event.Altered to back pos mask) typed fits =
    let place : List ℕ = decimal pos in
    let digits : List ℕ = encode_lower (mask ∷ []) in
    let is_byte = one_byte mask typed.2 in
    word_read sends profiles 97 word.Altered to (reference_text back ∷ place ∷ digits ∷ []) refl refl refl
    (no_space-reference back fits.0.1, (no_space-decimal pos (omega (arith, typed.1)), (no_space-hex (mask ∷ []) is_byte, tt)))
    ∙ ap (map_ok line.Step) (altered_read (delivered_len sends to) to back pos mask (reference_text back) place digits (number_said-decimal 65535 pos (omega (arith, typed.1)) (omega (arith, typed.1)))
    (reference_of-text back fits.0.0 fits.0.1) (bytes_said-hex 1 (mask ∷ []) is_byte (omega arith) (omega arith)) fits.1)
read_back sends profiles (event.Raw to frame) typed fits =
    word_read sends profiles 114 word.Raw to (encode_lower frame ∷ []) refl refl refl (no_space-hex frame typed, tt)
    ∙ rw (bytes_said-hex MOST_FRAME frame typed fits.0.0 fits.0.1) refl
read_back sends profiles (event.Tick at) typed fits = word_read sends profiles 116 word.Tick at [] refl refl refl tt
read_back sends profiles (event.Put at load) typed fits =
    word_read sends profiles 112 word.Put at (encode_lower load ∷ []) refl refl refl (no_space-hex load typed, tt)
    ∙ rw (bytes_said-hex MOST_DATA load typed fits.0.0 fits.0.1) (grind (arith, nat_tests, fits.1))
read_back sends profiles (event.Hold at failsafe) typed fits =
    word_read sends profiles 104 word.Hold at (switch_text failsafe ∷ []) refl refl refl (no_space-switch failsafe, tt)
    ∙ rw (switch_of-text failsafe) refl
read_back sends profiles (event.Nonce at id) typed fits =
    word_read sends profiles 110 word.Nonce at (decimal id ∷ []) refl refl refl (no_space-decimal id (omega (arith, typed)), tt)
    ∙ rw (number_said-decimal 4294967295 id (omega (arith, typed)) (omega (arith, typed)), fits.1) refl
read_back sends profiles (event.Local at) typed fits = word_read sends profiles 122 word.Local at [] refl refl refl tt
