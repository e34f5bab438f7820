-- A line with the number of a pair before it says the same of this pair.
use Rattle.schedule_file.proofs.Common.{End, Event, EventWord, FitsEnds, FitsPair, IsOfTypes, Ok, Option, Profile, Some, by_word, common_line, decimal, decimal_nonempty, event_text, fields_of, is_digits, is_space, line_said, nat_tests, number_said, numbered, numbered_line, pair_event, pair_line, pair_said, pair_word_of, pairs_line, pairs_said, said_to_number, slice_split_at, value_or, with_pair}
use Rattle.std.proofs.Common.{◌≡◌, ℕ, ◌<◌, ◌^◌, Bool, true, List, [], ◌∷◌, refl, ap, ◌∙◌, arith}
use Rattle.std.specs.Prelude.{if◌then◌else◌}
use Rattle.schedule_file.specs.Fields.{◌>>=◌}
use Rattle.schedule_file.specs.declared.line_cause.LineCause.TheVariants as cause
use Rattle.schedule_file.specs.declared.event.ScheduleLine.TheVariants as line
use Rattle.schedule_file.specs.declared.pairs_line.PairsLine.TheVariants as said
use Rattle.schedule_file.proofs.ReadBack.{digits-decimal, no_space-decimal, number_said-decimal, read_back}

-- an event that a line says to these ends it says to a pair with such ends
to_pair : (sends : List (End → ℕ)) (profiles : List (End → Profile)) (pair : ℕ) (own : End → ℕ) (profile : End → Profile) (number : Option ℕ) (first : List ℕ) (word : Option (EventWord × End)) (fields : List (List ℕ)) (event : Event)
    → number ≡ Some pair → numbered pair sends ≡ Some own → numbered pair profiles ≡ Some profile → line_said first fields (value_or cause.Word word >>= λ w. pair_event own profile w fields) ≡ Ok (line.Step event)
    → (value_or cause.Word word >>= λ w. said_to_number sends profiles number w fields) ≡ Ok (said.One pair event)
to_pair sends profiles pair own profile number first word fields event h k l m = grind arith

by_fields : (sends : List (End → ℕ)) (profiles : List (End → Profile)) (pair : ℕ) (own : End → ℕ) (profile : End → Profile) (digits : List ℕ) (fields : List (List ℕ)) (event : Event)
    → number_said 65535 digits ≡ Some pair → numbered pair sends ≡ Some own → numbered pair profiles ≡ Some profile → by_word cause.Word (pair_said own profile) fields ≡ Ok (line.Step event)
    → numbered_line sends profiles digits fields ≡ Ok (said.One pair event)
by_fields sends profiles pair own profile digits [] event h k l m = cc
by_fields sends profiles pair own profile digits (first ∷ fields) event h k l m = to_pair sends profiles pair own profile (number_said 65535 digits) first (pair_word_of first) fields event h k l m

pub numbered_said : (sends : List (End → ℕ)) (profiles : List (End → Profile)) (pair : ℕ) (own : End → ℕ) (profile : End → Profile) (text : List ℕ) (event : Event) → pair < 65536
    → numbered pair sends ≡ Some own → numbered pair profiles ≡ Some profile → pair_line own profile text ≡ Ok (line.Step event) → pairs_line sends profiles (with_pair pair text) ≡ Ok (said.One pair event)
numbered_said sends profiles pair own profile text event lt s p says =
    let wide : pair < 2 ^ 64 = omega (arith, lt) in
    let digits : is_digits (decimal pair) ≡ true = rw (digits-decimal pair wide) (grind (arith, nat_tests, decimal_nonempty pair wide)) in
    ap (by_word cause.Word (pairs_said sends profiles)) (slice_split_at is_space (decimal pair) 32 text (no_space-decimal pair wide) refl)
    ∙ ap (λ (b : Bool). if b then numbered_line sends profiles (decimal pair) (fields_of text) else common_line (decimal pair) (fields_of text)) digits
    ∙ by_fields sends profiles pair own profile (decimal pair) (fields_of text) event (number_said-decimal 65535 pair wide (omega (arith, lt))) s p says

-- the line of an event that fits a pair
by_ends : (sends : List (End → ℕ)) (profiles : List (End → Profile)) (pair : ℕ) (s : Option (End → ℕ)) (p : Option (End → Profile)) (event : Event) → pair < 65536 → IsOfTypes event
    → numbered pair sends ≡ s → numbered pair profiles ≡ p → FitsEnds s p event → pairs_line sends profiles (with_pair pair (event_text event)) ≡ Ok (said.One pair event)
by_ends sends profiles pair (Some own) (Some profile) event lt typed e d fits = numbered_said sends profiles pair own profile (event_text event) event lt e d (read_back own profile event typed fits)
by_ends sends profiles pair _ _ event lt typed e d fits = absurd fits

pub pair_read_back : (sends : List (End → ℕ)) (profiles : List (End → Profile)) (pair : ℕ) (event : Event) → pair < 65536 → IsOfTypes event → FitsPair sends profiles pair event
    → pairs_line sends profiles (with_pair pair (event_text event)) ≡ Ok (said.One pair event)
pair_read_back sends profiles pair event lt typed fits = by_ends sends profiles pair (numbered pair sends) (numbered pair profiles) event lt typed refl refl fits
