-- Several pairs go on with the next event of all.
use Rattle.duo_run.proofs.Common.{AllStandOver, AllZip-long, CanStep, DuoView, EndsUnmet, Entry, Event, IsPairOf, MayCome, Misses, NoFrame, None, NotesOthers, Option, Pair, PairsEvent, PairsHeading, PairsStand, Some, StandsOver, TellsNext, Ticks, append-nil, entries_by, entries_over, entry_after, eqb-false, eqb-true, event_lines, events_by, events_to, is_met, is_met_by, is_some, length-append, length-set, length_push, line_if, lines_of_events, numbered, one_line, pairs_format, pairs_of, pairs_reporting, same_Some, slice_get_within, steps_done, tick_lines, with_tick}
use Rattle.duo_run.specs.PairsReport.{pair_entry_line}
use Rattle.schedule_file.specs.PairsInput.{entries_of}
use Rattle.std.proofs.Common.{◌≡◌, ◌≤◌, ◌<◌, ◌+◌, ◌*◌, ◌^◌, ℕ, suc, Bool, true, false, List, [], ◌∷◌, ◌++◌, length, slice_get, slice_set, refl, arith, ap, sym, subst, ◌∙◌, append_assoc, rules}
use Rattle.std.specs.Prelude.{if◌then◌else◌, ◌==◌}
use Rattle.fsoe_base.specs.declared.command.End.TheVariants as end_name
use Rattle.schedule_file.specs.declared.event.Event.TheVariants as event
use Rattle.schedule_file.specs.declared.pairs_line.PairsEvent.TheVariants as common
use Rattle.duo_run.proofs.Pairs.At.{others_stay, named, set_at}
use Rattle.duo_run.proofs.Pairs.Noted.{others-length, others_after}
use Rattle.duo_run.proofs.Pairs.Running.{done_next, pairs_unsent}
use Rattle.duo_run.proofs.Pairs.Ticking.{counted_over, goes_over, stood_at}

-- the entries that one event more makes
entries-push : (n : ℕ) (log : List PairsEvent) (event : PairsEvent) → entries_of n (log ++ event ∷ []) ≡ entries_of n log + entries_by n event
entries-push n [] event = omega arith
entries-push n (e ∷ log) event = let rest = entries-push n log event in omega (arith, rest)

by_few : (k : ℕ) (event : PairsEvent) → length (events_by k event) ≤ 2
by_few k event = grind arith

pub events_few : (k : ℕ) (past : List PairsEvent) → length (events_to k past) ≤ 2 * length past
events_few k [] = omega arith
events_few k (event ∷ past) = let a = events_few k past in let b = by_few k event in omega (arith, a, b, length-append (events_to k past) (events_by k event))

-- so each pair can go on
pub can_step : (duos : List DuoView) (others : List (Option ℕ)) (made : ℕ) (event : PairsEvent) (number : ℕ) → MayCome (PairsStand duos others made) pairs_format event number → CanStep duos
can_step duos others made event number may =
    let k = may.stands in
    record {
      pairs = k.pairs;
      own = λ j. events_to j k.past;
      stand = k.stand;
      few = λ j. let a = events_few j k.past in omega (arith, a, k.whole, may.number_is, may.few);
    }

-- so it can when one end has ticked
pub can_step_on : (duos new : List DuoView) (others : List (Option ℕ)) (made : ℕ) (next : PairsEvent) (number : ℕ) (before after : List ℕ) → MayCome (PairsStand duos others made) pairs_format next number → Ticks end_name.Slave number duos before new after → CanStep new
can_step_on duos new others made next number before after may t =
    let k = may.stands in
    let ticked = t.ticks k.pairs (λ j. events_to j k.past) k.stand in
    record {
      pairs = k.pairs;
      own = with_tick end_name.Slave (λ j. events_to j k.past);
      stand = ticked.stand;
      few = λ j. let a = events_few j k.past in omega (arith, a, k.whole, may.number_is, may.few, length_push (events_to j k.past) (event.Tick end_name.Slave));
    }

two : (own : List Event) (a b : Event) → (own ++ a ∷ []) ++ b ∷ [] ≡ own ++ a ∷ b ∷ []
two own a b = append_assoc own (a ∷ []) (b ∷ [])

stand_same : (pairs : List Pair) (f g : ℕ → List Event) (duos : List DuoView) → ((k : ℕ) → f k ≡ g k) → AllStandOver pairs f duos → AllStandOver pairs g duos
stand_same pairs f g duos same stand = record { many = stand.many; each = λ k p v p-at v-at. subst (λ (own : List Event). StandsOver p own v) (same k) (stand.each k p v p-at v-at) }

-- the next event of all is met by each pair
next_goes : (old new : List DuoView) (others noted : List (Option ℕ)) (made now number : ℕ) (event : PairsEvent) (piece : List ℕ) (h : PairsHeading) (log : List PairsEvent) (text : List ℕ) (k : PairsStand old others made h log text)
    → is_met k.pairs k.past event ≡ true → AllStandOver k.pairs (λ j. events_to j (event ∷ k.past)) new → piece ≡ event_lines number k.pairs k.past event → NotesOthers number new others noted
    → now ≡ made + entries_by (length (pairs_of h)) event → number ≡ length log + 1 → PairsStand new noted now h (log ++ event ∷ []) (text ++ piece)
next_goes old new others noted made now number event piece h log text k met stand lines notes count e =
    let n : number ≡ length k.past + 1 = omega (arith, e, k.whole) in
    let m : number ≡ suc (length k.past) = omega (arith, n) in
    record {
      pairs = k.pairs;
      past = event ∷ k.past;
      set = k.set;
      done = done_next k.pairs log event k.past k.done k.whole met;
      whole = omega (arith, k.whole, length_push log event);
      stand = stand;
      some = k.some;
      few = k.few;
      made_is = let all = entries-push (length (pairs_of h)) log event in omega (arith, all, k.made_is, count);
      others_are = others_after k.pairs k.past event new number others noted m k.others_are stand notes;
      lines = ap (λ (z : List ℕ). z ++ piece) k.lines ∙ ap (λ (z : List ℕ). lines_of_events k.pairs k.past ++ z) (lines ∙ ap (λ (n : ℕ). event_lines n k.pairs k.past event) n);
    }

-- a tick of all: all slaves ticked, and then all masters
pub tick_goes : (old mid new : List DuoView) (others noted : List (Option ℕ)) (made now : ℕ) (number : ℕ) (first second : List ℕ) (h : PairsHeading) (log : List PairsEvent) (text : List ℕ) → Ticks end_name.Slave number old [] mid first → Ticks end_name.Master number mid first new second
    → NotesOthers number new others noted → now ≡ made + 2 * length old → number ≡ length log + 1 → PairsStand old others made h log text → PairsStand new noted now h (log ++ common.Tick ∷ []) (text ++ second)
tick_goes old mid new others noted made now number first second h log text slaves masters notes count e k =
    let a = slaves.ticks k.pairs (λ j. events_to j k.past) k.stand in
    let b = masters.ticks k.pairs (with_tick end_name.Slave (λ j. events_to j k.past)) a.stand in
    let stand : AllStandOver k.pairs (λ j. events_to j (common.Tick ∷ k.past)) new = search (rules, stand_same, two) in
    let piece : second ≡ event_lines number k.pairs k.past common.Tick =
    b.lines ∙ ap (λ (z : List ℕ). z ++ tick_lines number (with_tick end_name.Slave (λ j. events_to j k.past)) end_name.Master 1 k.pairs) a.lines in
    let many = AllZip-long IsPairOf (pairs_of h) k.pairs k.set in
    next_goes old new others noted made now number common.Tick second h log text k refl stand piece notes (omega (arith, many, count, k.stand.many)) e

-- the event of one pair, which has its entry
stand_one : (pairs : List Pair) (past : List PairsEvent) (old new : List DuoView) (pair place : ℕ) (own : Event) (p : Pair) (after : DuoView) → pair ≡ place + 1 → numbered pair pairs ≡ Some p → new ≡ slice_set old place after → numbered pair new ≡ Some after
    → AllStandOver pairs (λ k. events_to k past) old → StandsOver p (events_to pair past ++ own ∷ []) after → (k : ℕ) (q : Pair) (v : DuoView) → numbered k pairs ≡ Some q → numbered k new ≡ Some v → (same : Bool) → (pair == k) ≡ same
    → StandsOver q (events_to k past ++ (if pair == k then own ∷ [] else [])) v
stand_one pairs past old new pair place own p after e p-at is new-at stand goes k q v q-at v-at true test =
    let here : pair ≡ k = eqb-true pair k test in
    let p-same : p ≡ q = same_Some _ _ (sym p-at ∙ ap (λ (j : ℕ). numbered j pairs) here ∙ q-at) in
    let v-same : after ≡ v = same_Some _ _ (sym new-at ∙ ap (λ (j : ℕ). numbered j new) here ∙ v-at) in
    subst (λ (b : Bool). StandsOver q (events_to k past ++ (if b then own ∷ [] else [])) v) (sym test)
    (subst (λ (j : ℕ). StandsOver q (events_to j past ++ own ∷ []) v) here
    (subst (λ (v : DuoView). StandsOver q (events_to pair past ++ own ∷ []) v) v-same (subst (λ (q : Pair). StandsOver q (events_to pair past ++ own ∷ []) after) p-same goes)))
stand_one pairs past old new pair place own p after e p-at is new-at stand goes k q v q-at v-at false test =
    let apart : k ≡ pair → ⊥ = λ same. eqb-false pair k test (sym same) in
    let v-old : numbered k old ≡ Some v = sym (others_stay pair place k old new after e is apart) ∙ v-at in
    subst (λ (b : Bool). StandsOver q (events_to k past ++ (if b then own ∷ [] else [])) v) (sym test)
    (subst (λ (own : List Event). StandsOver q own v) (sym (append-nil (events_to k past))) (stand.each k q v q-at v-old))

-- its line is that of the event
one_lines : (pairs : List Pair) (past : List PairsEvent) (n k : ℕ) (own : Event) (p : Pair) (x : Entry) → numbered k pairs ≡ Some p → entry_after p (events_to k past) own ≡ Some x → event_lines n pairs past (common.One k own) ≡ pair_entry_line n k x
one_lines pairs past n k own p x at next = ap (one_line n k past own) at ∙ ap (line_if n k) next

one_met : (pairs : List Pair) (past : List PairsEvent) (k : ℕ) (own : Event) (p : Pair) (next : Option Entry) → numbered k pairs ≡ Some p → entry_after p (events_to k past) own ≡ next → is_met pairs past (common.One k own) ≡ is_some next
one_met pairs past k own p next at is = ap (is_met_by k past own) at ∙ ap (λ (o : Option Entry). is_some o) is

pub one_goes : (old new : List DuoView) (others noted : List (Option ℕ)) (made now number pair place : ℕ) (own : Event) (v after : DuoView) (piece : List ℕ) (h : PairsHeading) (log : List PairsEvent) (text : List ℕ) → pair ≡ place + 1 → slice_get old place ≡ Some v
    → TellsNext v own number pair after piece → new ≡ slice_set old place after → NotesOthers number new others noted → now ≡ made + 1 → number ≡ length log + 1 → PairsStand old others made h log text
    → PairsStand new noted now h (log ++ common.One pair own ∷ []) (text ++ piece)
one_goes old new others noted made now number pair place own v after piece h log text e v-at tells is notes count f k =
    let below : place < length old = slice_get_within old place v v-at in
    let stood = stood_at k.pairs (λ j. events_to j k.past) old pair place v e k.stand v-at in
    let p : Pair = stood.0 in
    let p-at = stood.1 in
    let told = tells.tells p.master p.slave (entries_over p (events_to pair k.past)) stood.2.stands in
    let goes : StandsOver p (events_to pair k.past ++ own ∷ []) after = goes_over p (events_to pair k.past) own told.entry after stood.2.whole told.next told.stands in
    let new-at : numbered pair new ≡ Some after = named pair place new after e (ap (λ (n : List DuoView). slice_get n place) is ∙ set_at old place after below) in
    let many : length new ≡ length old = ap (length {A = DuoView}) is ∙ length-set old place after in
    let stand : AllStandOver k.pairs (λ j. events_to j (common.One pair own ∷ k.past)) new = record {
      many = many ∙ k.stand.many;
      each = λ j q w q-at w-at. stand_one k.pairs k.past old new pair place own p after e p-at is new-at k.stand goes j q w q-at w-at (pair == j) refl;
    } in
    let line : piece ≡ event_lines number k.pairs k.past (common.One pair own) = told.line_is ∙ sym (one_lines k.pairs k.past number pair own p told.entry p-at told.next) in
    next_goes old new others noted made now number (common.One pair own) piece h log text k (one_met k.pairs k.past pair own p (Some told.entry) p-at told.next) stand line notes count f

pub one_unsent : (old : List DuoView) (others : List (Option ℕ)) (made pair place : ℕ) (own : Event) (v : DuoView) (h : PairsHeading) (log : List PairsEvent) (text : List ℕ) → pair ≡ place + 1 → slice_get old place ≡ Some v → Misses v own
    → PairsStand old others made h log text → EndsUnmet pairs_reporting h log text (common.One pair own) NoFrame
one_unsent old others made pair place own v h log text e v-at misses k =
    let stood = stood_at k.pairs (λ j. events_to j k.past) old pair place v e k.stand v-at in
    let p : Pair = stood.0 in
    pairs_unsent old others made h log text (common.One pair own) k
    (one_met k.pairs k.past pair own p None stood.1 (misses.misses p.master p.slave (entries_over p (events_to pair k.past)) stood.2.stands))

-- what an event of all needs: there are at most 16 pairs, each noted, and the entries so far are few
by_most : (n : ℕ) (event : PairsEvent) → n ≤ 16 → entries_by n event ≤ 33
by_most n event h = grind arith

entries_most : (n : ℕ) (log : List PairsEvent) → n ≤ 16 → entries_of n log ≤ 33 * length log
entries_most n [] few = omega arith
entries_most n (event ∷ log) few = let a = entries_most n log few in let b = by_most n event few in omega (arith, a, b)

pub few_duos : (duos : List DuoView) (others : List (Option ℕ)) (made : ℕ) (event : PairsEvent) (number : ℕ) → MayCome (PairsStand duos others made) pairs_format event number → length duos ≤ 16
few_duos duos others made event number may =
    let k = may.stands in
    let q = AllZip-long IsPairOf (pairs_of may.heading) k.pairs k.set in
    omega (arith, q, k.stand.many, k.few)

pub few_entries : (duos : List DuoView) (others : List (Option ℕ)) (made : ℕ) (event : PairsEvent) (number : ℕ) → MayCome (PairsStand duos others made) pairs_format event number → made ≤ 6600000
few_entries duos others made event number may =
    let m = entries_most (length (pairs_of may.heading)) may.log may.stands.few in
    omega (arith, m, may.number_is, may.few, may.stands.made_is)

pub noted_each : (duos : List DuoView) (others : List (Option ℕ)) (made : ℕ) (event : PairsEvent) (number : ℕ) → MayCome (PairsStand duos others made) pairs_format event number → length others ≡ length duos
noted_each duos others made event number may = let k = may.stands in ap (length {A = Option ℕ}) k.others_are ∙ others-length 1 k.pairs k.past ∙ sym k.stand.many

pub one_counted : (duos : List DuoView) (others : List (Option ℕ)) (made : ℕ) (event : PairsEvent) (number : ℕ) (place : ℕ) (v : DuoView) → MayCome (PairsStand duos others made) pairs_format event number → slice_get duos place ≡ Some v → steps_done v + 1 < 2 ^ 64
one_counted duos others made event number place v may v-at =
    let k = may.stands in
    let stood = stood_at k.pairs (λ j. events_to j k.past) duos (suc place) place v (omega arith) k.stand v-at in
    let counted = counted_over stood.0 (events_to (suc place) k.past) v stood.2 in
    let a = events_few (suc place) k.past in
    omega (arith, counted, a, k.whole, may.number_is, may.few)
