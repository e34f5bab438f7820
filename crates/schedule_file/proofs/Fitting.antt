-- The events of an input fit the ends that its header describes.
use Rattle.schedule_file.proofs.Common.{All, All-cons, All-head, All-nil, All-tail, End, Err, Event, EventWord, Fits, FitsEnd, Heading, IfOk, IfSome, InputFormat, LineCause, None, Ok, OnStep, Option, Profile, Result, ScheduleLine, Some, Stop, WholeHeaderOf, bytes_said, delivered_len, event_of, event_said, fields_of, header_of, heading_profile, input_by, input_of, line_said, ltb-true, nat_lt, nat_tests, next_field, number_16, one_field, own_length, pair_event, pair_line, pair_said, pair_word_of, reference_of, said_after, schedule_format, steps, texts, value_or, with_room}
use Rattle.schedule_file.specs.Fields.{◌>>=◌}
use Rattle.std.proofs.Common.{◌≡◌, ℕ, ◌≤◌, ◌<◌, Bool, true, false, List, [], ◌∷◌, ◌++◌, map, arith}
use Rattle.std.specs.Prelude.{if◌then◌else◌}
use Rattle.schedule_file.specs.NodeEvent.{node_line, node_said, node_word_of}
use Rattle.schedule_file.specs.declared.header_kind.HeaderKind.TheVariants.{Pair, Node}
use Rattle.schedule_file.specs.declared.line_cause.LineCause.TheVariants as cause
use Rattle.schedule_file.specs.declared.event_line.EventWord.TheVariants as word
use Rattle.schedule_file.proofs.Sound.{each, hex_within, ok_if, worded}

-- the next step gives such a value, whatever is given here
given : {A B : Type 0} (o : Option A) (cause : LineCause) (f : A → Result B LineCause) (Q : A → Type 0) (P : B → Type 0) → IfSome o Q → ((x : A) → Q x → IfOk (f x) P) → IfOk (value_or cause o >>= f) P
given (Some x) cause f Q P q h = h x q
given None cause f Q P q h = tt

-- a reference is from 1 to 64
abbrev IsReference : ℕ → Type 0
IsReference back = (0 < back) × (back ≤ 64)

reference_within : (text : List ℕ) → IfSome (reference_of text) IsReference
reference_within [] = tt
reference_within (sign ∷ digits) = grind (arith, nat_tests)

-- the event of a line fits
pub event_fits : (sends : End → ℕ) (profiles : End → Profile) (word : EventWord) (at : End) (fields : List (List ℕ)) → IfOk (pair_event sends profiles (word, at) fields) (Fits sends profiles)
event_fits sends profiles word.Altered at fields =
    each (next_field fields) _ _ (λ reference. each (next_field reference.1) _ _ (λ place. each (one_field place.1) _ _ (λ digits. each (number_16 place.0) _ _ (λ pos.
    given (reference_of reference.0) cause.Reference _ _ _ (reference_within reference.0) (λ back range. each (value_or cause.Hex (bytes_said 1 digits)) _ _ (λ mask.
    ok_if (nat_lt pos (delivered_len sends at)) _ cause.Position _ (λ e. (range, ltb-true pos (delivered_len sends at) e))))))))
event_fits sends profiles _ at fields = grind (arith, nat_tests, reference_within, hex_within)

-- what a word says to a node fits its end
node_fits : (end : End) (sends : End → ℕ) (profile : Profile) (first : List ℕ) (fields : List (List ℕ))
    → IfOk (value_or cause.Word (node_word_of first) >>= λ word. event_said sends profile (word, end) fields) (FitsEnd end (sends end) profile)
node_fits end sends profile first fields = grind (arith, nat_tests, hex_within)

-- what a line says fits, where its event does
line_fits : (first : List ℕ) (fields : List (List ℕ)) (event : Result Event LineCause) (P : Event → Type 0) → IfOk event P → IfOk (line_said first fields event) (OnStep P)
line_fits first fields event P fits = grind arith

pub pair_line_fits : (sends : End → ℕ) (profiles : End → Profile) (text : List ℕ) → IfOk (pair_line sends profiles text) (OnStep (Fits sends profiles))
pair_line_fits sends profiles text =
    worded cause.Word (pair_said sends profiles) _ (λ first fields. line_fits first fields _ _ (each (value_or cause.Word (pair_word_of first)) _ _ (λ word. event_fits sends profiles word.0 word.1 fields))) (fields_of text)

pub node_line_fits : (end : End) (sends : End → ℕ) (profile : Profile) (text : List ℕ) → IfOk (node_line end sends profile text) (OnStep (FitsEnd end (sends end) profile))
node_line_fits end sends profile text = worded cause.Word (node_said end sends profile) _ (λ first fields. line_fits first fields _ _ (node_fits end sends profile first fields)) (fields_of text)

-- an event that a line says fits
on_event : (P : Event → Type 0) (r : Result ScheduleLine LineCause) → IfOk r (OnStep P) → (said : ScheduleLine) (event : Event) → r ≡ Ok said → event_of said ≡ Some event → P event
on_event P r fits said event says e = grind arith

pub pair_event_fits : (h : Heading) (text : List ℕ) (said : ScheduleLine) (event : Event) → said_after Pair h text ≡ Ok said → event_of said ≡ Some event → Fits (own_length h) (heading_profile h) event
pair_event_fits h text = on_event (Fits (own_length h) (heading_profile h)) _ (pair_line_fits (own_length h) (heading_profile h) text)

pub node_event_fits : (end : End) (h : Heading) (text : List ℕ) (said : ScheduleLine) (event : Event) → said_after (Node end) h text ≡ Ok said → event_of said ≡ Some event → FitsEnd end (own_length h end) (heading_profile h end) event
node_event_fits end h text = on_event (FitsEnd end (own_length h end) (heading_profile h end)) _ (node_line_fits end (own_length h) (heading_profile h end) text)

first_is : {L E : Type 0} (event_of : L → Option E) (P : E → Type 0) (r : Result L LineCause) (said : List (Result L LineCause)) → ((line : L) (event : E) → r ≡ Ok line → event_of line ≡ Some event → P event)
    → All P (steps event_of said) → All P (steps event_of (r ∷ said))
first_is event_of P r said h k = grind arith

steps_are : {L E : Type 0} (event_of : L → Option E) (P : E → Type 0) (says : List ℕ → Result L LineCause) → ((text : List ℕ) (line : L) (event : E) → says text ≡ Ok line → event_of line ≡ Some event → P event)
    → (lines : List (List ℕ)) → All P (steps event_of (map says lines))
steps_are event_of P says are [] = All-nil P
steps_are event_of P says are (text ∷ lines) = first_is event_of P (says text) (map says lines) (are text) (steps_are event_of P says are lines)

chosen : {A : Type 0} (b : Bool) (x y : A) (P : A → Type 0) → P x → P y → P (if b then x else y)
chosen true x y P h i = h
chosen false x y P h i = i

-- so are those that find room
room_has : {E : Type 0} (P : E → Type 0) (is_full : List E → Bool) (log events : List E) → All P events → All P (with_room is_full log events)
room_has P is_full log [] all = all
room_has P is_full log (event ∷ events) all =
    let later = room_has P is_full (log ++ event ∷ []) events (All-tail P event events all) in
    chosen (is_full log) [] (event ∷ with_room is_full (log ++ event ∷ []) events) (All P) (All-nil P) (All-cons P event (with_room is_full (log ++ event ∷ []) events) (All-head P event events all) later)

-- so are the events of any input, where each line's is
pub input_is : {H L E : Type 0} (f : InputFormat H L E) (P : H → E → Type 0) → ((h : H) (text : List ℕ) (line : L) (event : E) → f.line h text ≡ Ok line → f.event line ≡ Some event → P h event)
    → (r : Result (WholeHeaderOf H) Stop) → IfSome (input_by f r).heading (λ h. All (P h) (input_by f r).events)
input_is {H} {L} {E} f P are (Ok whole) =
    let h : H = whole.heading in
    let said : List E = steps f.event (map (f.line h) (texts whole.rest)) in
    room_has (P h) (f.is_full h) [] said (steps_are f.event (P h) (f.line h) (are h) (texts whole.rest))
input_is f P are (Err stop) = tt

pub events_fit : (bytes : List ℕ) → IfSome (input_of Pair bytes).heading (λ h. All (Fits (own_length h) (heading_profile h)) (input_of Pair bytes).events)
events_fit bytes = input_is (schedule_format Pair) (λ h. Fits (own_length h) (heading_profile h)) pair_event_fits (header_of Pair bytes)

pub node_events_fit : (end : End) (bytes : List ℕ) → IfSome (input_of (Node end) bytes).heading (λ h. All (FitsEnd end (own_length h end) (heading_profile h end)) (input_of (Node end) bytes).events)
node_events_fit end bytes =
    input_is (schedule_format (Node end)) (λ h. FitsEnd end (own_length h end) (heading_profile h end)) (node_event_fits end) (header_of (Node end) bytes)
