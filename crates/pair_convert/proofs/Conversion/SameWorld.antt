-- The only pair of a converted file does what the pair of that file did, and so the file says the same.
use Rattle.pair_convert.proofs.Common.{AtEnd, Entry, Event, Heading, InputOf, IsOnePair, IsSomeAnd, None, Option, Pair, PairsEvent, PairsHeading, SaysTheSame, Some, append-nil, converted, done_after, entries_over, entry_after, events_done, events_to, input_of, is_some, length_push, pairs_input, world_missed, world_next, world_of}
use Rattle.std.proofs.Common.{◌≡◌, ℕ, List, [], ◌∷◌, ◌++◌, length, map, refl, arith, ap, sym, ◌∙◌, append_assoc}
use Rattle.std.specs.Prelude.{if◌then◌else◌}
use Rattle.schedule_file.specs.declared.header_kind.HeaderKind.TheVariants as kind
use Rattle.pair_convert.proofs.Conversion.OnePair.{converts, of_one}

-- these events of the only pair are done, each of which has its entry; then those that come are done up to the first
-- without one
abbrev GoesOn : Pair → List Event → List PairsEvent → Type 0
GoesOn p events past = length (entries_over p (events_to 1 past)) ≡ length (events_to 1 past) → world_of 1 p (done_after (p ∷ []) (map of_one events) past) ≡ entries_over p (events_to 1 past ++ events)

by_entry : (p : Pair) (event : Event) (events : List Event) (past : List PairsEvent) (next : Option Entry) → entry_after p (events_to 1 past) event ≡ next → GoesOn p events (of_one event ∷ past)
    → length (entries_over p (events_to 1 past)) ≡ length (events_to 1 past)
    → world_of 1 p (if is_some next then done_after (p ∷ []) (map of_one events) (of_one event ∷ past) else past) ≡ entries_over p (events_to 1 past ++ event ∷ events)
by_entry p event events past (Some x) is later whole =
    let own : List Event = events_to 1 past in
    let longer : entries_over p (own ++ event ∷ []) ≡ x ∷ entries_over p own = world_next p.master p.slave own event x whole is in
    let counted : length (entries_over p (own ++ event ∷ [])) ≡ length (own ++ event ∷ []) = ap (length {A = Entry}) longer ∙ omega (arith, whole, length_push own event) in
    later counted ∙ ap (entries_over p) (append_assoc own (event ∷ []) events)
by_entry p event events past None is later whole = sym (world_missed p.master p.slave (events_to 1 past) events event whole is)

goes_on : (p : Pair) (events : List Event) (past : List PairsEvent) → GoesOn p events past
goes_on p [] past whole = ap (entries_over p) (sym (append-nil (events_to 1 past)))
goes_on p (event ∷ events) past whole = by_entry p event events past (entry_after p (events_to 1 past) event) refl (goes_on p events (of_one event ∷ past)) whole

pub same_world : (p : Pair) (events : List Event) → world_of 1 p (events_done (p ∷ []) (map of_one events)) ≡ entries_over p events
same_world p events = goes_on p events [] refl

events_are : (heading : Option Heading) (events : List Event) (pairs : InputOf PairsHeading PairsEvent) → IsSomeAnd heading (λ h. IsOnePair h events pairs) → pairs.events ≡ map of_one events
events_are heading events pairs h = grind arith

pub says_the_same : (bytes : List ℕ) → (input_of kind.Pair bytes).stop ≡ AtEnd → SaysTheSame bytes (converted bytes)
says_the_same bytes stops =
    let events : List Event = (input_of kind.Pair bytes).events in
    let one = converts bytes stops in
    let are = events_are (input_of kind.Pair bytes).heading events (pairs_input (converted bytes)) one in
    record { one_pair = one; entries = λ p. ap (λ (es : List PairsEvent). world_of 1 p (events_done (p ∷ []) es)) are ∙ same_world p events }
