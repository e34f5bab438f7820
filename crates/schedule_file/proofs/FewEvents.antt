-- How many events an input may have.
use Rattle.schedule_file.proofs.Common.{Event, HeaderKind, input_of, is_full, length_push, with_room}
use Rattle.std.proofs.Common.{◌≡◌, ℕ, ◌+◌, ◌≤◌, ◌<◌, Bool, List, [], ◌∷◌, ◌++◌, length, refl, arith, rules}
use Rattle.std.specs.Prelude.{◌==◌, if◌then◌else◌}
use Rattle.schedule_file.specs.declared.event.TheConstants.{MAX_EVENTS}

one-few : (full : Bool) (n : ℕ) (event : Event) (later : List Event) → (n == MAX_EVENTS) ≡ full → n ≤ MAX_EVENTS → (n < MAX_EVENTS → n + 1 + length later ≤ MAX_EVENTS)
    → n + length (if full then [] else event ∷ later) ≤ MAX_EVENTS
one-few full n event later h k l = grind arith

room-few : (log events : List Event) → length log ≤ MAX_EVENTS → length log + length (with_room is_full log events) ≤ MAX_EVENTS
room-few log [] few = omega (arith, few)
room-few log (event ∷ events) few =
    one-few (is_full log) (length log) event (with_room is_full (log ++ event ∷ []) events) refl few
    (λ below.
    let pushed : length (log ++ event ∷ []) ≡ length log + 1 = length_push log event in
    let all = room-few (log ++ event ∷ []) events (omega (arith, pushed, below)) in
    omega (arith, pushed, all))

pub few_events : (kind : HeaderKind) (bytes : List ℕ) → length (input_of kind bytes).events ≤ MAX_EVENTS
few_events kind bytes = search (rules, room-few)
