-- The line of an event is short, so that with the number of a pair before it is a line still.
use Rattle.pair_convert.proofs.Common.{End, Event, IfOk, LineCause, None, Ok, Profile, Result, ScheduleLine, Some, all_ascii_digits, and_parts, by_word, bytes_said, codes, decimal, fields_of, is_number, join_with_byte, leb-true, length-append, ltb-true, nat_lt, number_said, one_field, pair_event, pair_line, pair_said, pair_word_of, slice_index, value_or}
use Rattle.schedule_file.specs.Fields.{◌>>=◌}
use Rattle.std.proofs.Common.{◌≡◌, ℕ, ◌+◌, ◌/◌, ◌≤◌, Bool, true, List, [], ◌∷◌, length, get_or, refl, subst, arith, rules}
use Rattle.std.specs.Prelude.{◌&&◌, ◌||◌, ◌==◌, Option}
use Rattle.std.specs.Str.Parse.{digits_value}
use Rattle.std.proofs.lemmas.Fmt.{decimal-digits_value, length-decimal-le}
use Rattle.std.proofs.lemmas.List.Splits.{join_with_byte-slice_split}
use Rattle.std.proofs.lemmas.Slice.Eq.{bytes_eq-Decides}
use Rattle.std.proofs.lemmas.Str.Parse.{numerals_by_value, tells_all_ascii_digits}
use Rattle.schedule_file.specs.EventLine.{event_said, line_said, not_zero, reference_of}
use Rattle.schedule_file.specs.declared.event_line.EventWord.{EventWord}
use Rattle.schedule_file.specs.declared.line_cause.LineCause.TheVariants as cause
use Rattle.std.proofs.lemmas.Result.{IfOk-weaker}
use Rattle.schedule_file.proofs.HexDigits.{other_count}

-- a number of at most 32 bits has at most ten digits
first_digit : (text : List ℕ) (one above : Bool) → length text == 1 ≡ one → nat_lt 48 (slice_index text 0) ≡ above → (one || above) ≡ true → get_or text 0 0 ≡ 48 → length text ≡ 1
first_digit text one above e d some zero = grind arith

digits_short : (text : List ℕ) → is_number text ≡ true → digits_value 10 text ≤ 4294967295 → length text ≤ 10
digits_short text is most =
    let front = and_parts (nat_lt 0 (length text) && all_ascii_digits text) (length text == 1 || nat_lt 48 (slice_index text 0)) is in
    let parts = and_parts (nat_lt 0 (length text)) (all_ascii_digits text) front.0 in
    let same : decimal (digits_value 10 text) ≡ text =
    decimal-digits_value (numerals_by_value _ tells_all_ascii_digits) text parts.1 (ltb-true 0 (length text) parts.0) (first_digit text _ _ refl refl front.1) (omega (arith, most))
    in
    subst (λ (t : List ℕ). length t ≤ 10) same (length-decimal-le 10 (digits_value 10 text) (omega arith) (omega (arith, most)) (omega (arith, most)))

number_short : (most : ℕ) (text : List ℕ) (n : ℕ) → most ≤ 4294967295 → number_said most text ≡ Some n → length text ≤ 10
number_short most text n h k = search (rules, is_number, leb-true, digits_short)

-- a field of hexadecimal bytes has two digits for each
hex_short : (most : ℕ) (text bytes : List ℕ) → bytes_said most text ≡ Some bytes → length text / 2 ≤ most
hex_short most text bytes h = search (rules, other_count)

-- a reference is a sign and a number
some_number : (o : Option ℕ) (back : ℕ) → not_zero o ≡ Some back → (n : ℕ) × (o ≡ Some n)
some_number o back h = grind arith

reference_short : (text : List ℕ) (back : ℕ) → reference_of text ≡ Some back → length text ≤ 11
reference_short text back h = search (rules, some_number, number_short)

-- the bytes of fields, each with the space before it
abbrev total : List (List ℕ) → ℕ
total [] = 0
total (field ∷ fields) = 1 + length field + total fields

length-joined : (first : List ℕ) (fields : List (List ℕ)) → length (join_with_byte 32 (first ∷ fields)) ≡ length first + total fields
length-joined first [] = omega arith
length-joined first (next ∷ fields) =
    let all = length-joined next fields in
    let both = length-append first (32 ∷ join_with_byte 32 (next ∷ fields)) in
    omega (arith, all, both)

alone : {A : Type 0} (o : Option A) (cause : LineCause) (Q : Type 0) → ((x : A) → o ≡ Some x → Q) → IfOk (value_or cause o) (λ _. Q)
alone (Some x) cause Q known = known x refl
alone None cause Q known = tt

-- one field, and no field
one_short : {B : Type 0} (fields : List (List ℕ)) (f : List ℕ → Result B LineCause) → ((field : List ℕ) → IfOk (f field) (λ _. length field ≤ 511)) → IfOk (one_field fields >>= f) (λ _. total fields ≤ 512)
one_short fields f h = grind arith

-- what a word says with its fields
said_short : (sends : End → ℕ) (profile : Profile) (word : EventWord × End) (fields : List (List ℕ)) → IfOk (event_said sends profile word fields) (λ _. total fields ≤ 512)
said_short sends profile word fields = search (rules, one_short, reference_short, number_short, hex_short, codes, bytes_eq-Decides)

word_short : (text : List ℕ) (said : EventWord × End) → pair_word_of text ≡ Some said → length text ≤ 3
word_short text said h = search rules

event_short : (sends : End → ℕ) (profiles : End → Profile) (first : List ℕ) (fields : List (List ℕ)) (w : Option (EventWord × End)) → pair_word_of first ≡ w
    → IfOk (value_or cause.Word w >>= λ word. pair_event sends profiles word fields) (λ _. (length first ≤ 3) × (total fields ≤ 512))
event_short sends profiles first fields None e = tt
event_short sends profiles first fields (Some word) e =
    IfOk-weaker (pair_event sends profiles word fields) _ _ (λ _ few. (word_short first word e, few)) (said_short sends (profiles word.1) word fields)

-- `end` is short, too
end_short : (first : List ℕ) (fields : List (List ℕ)) (event : Result Event LineCause) (says : ScheduleLine) → IfOk event (λ _. (length first ≤ 3) × (total fields ≤ 512)) → line_said first fields event ≡ Ok says
    → (length first ≤ 3) × (total fields ≤ 512)
end_short first fields event says h said = search rules

-- the line of an event has at most 520 bytes
word_line : (sends : End → ℕ) (profiles : End → Profile) (first : List ℕ) (fields : List (List ℕ)) (says : ScheduleLine) → pair_said sends profiles first fields ≡ Ok says → length (join_with_byte 32 (first ∷ fields)) ≤ 520
word_line sends profiles first fields says said =
    let few = end_short first fields _ says (event_short sends profiles first fields (pair_word_of first) refl) said in
    let all = length-joined first fields in
    omega (arith, few.0, few.1, all)

by_fields : (sends : End → ℕ) (profiles : End → Profile) (fields : List (List ℕ)) (says : ScheduleLine) → by_word cause.Word (pair_said sends profiles) fields ≡ Ok says → length (join_with_byte 32 fields) ≤ 520
by_fields sends profiles fields says h = search (rules, word_line)

pub line_short : (sends : End → ℕ) (profiles : End → Profile) (text : List ℕ) (says : ScheduleLine) → pair_line sends profiles text ≡ Ok says → length text ≤ 520
line_short sends profiles text says said = subst (λ (t : List ℕ). length t ≤ 520) (join_with_byte-slice_split 32 text) (by_fields sends profiles (fields_of text) says said)
