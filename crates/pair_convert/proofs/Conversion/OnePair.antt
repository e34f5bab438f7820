-- What a pair file is converted to is read as a file of one pair, with the same header and the same events.
use Rattle.pair_convert.proofs.Common.{All-nil, AtEnd, Ended, Err, Event, HasNoNewline, Heading, IfOk, IfOk-at_ok, IfOk-every, IfOk-map, Input, InputCause, InputOf, IsLine, IsOnePair, IsSomeAnd, LineCause, Long, Ok, PairsEvent, PairsHeading, Refused, Result, ScheduleLine, Some, Stop, WholeHeader, WholeHeaderOf, admitted, bytes_eq, codes, common_steps, converted, each, ended_at_stop, event_text, fields_of, fields_taken, flat_map, header_in, header_piece, header_step, header_word_of, heading_after, heading_is_whole, heading_new, heading_with, input_after, input_by, input_of, is_full, is_newline, is_start, last_text, length_push, line_text, lines_in, lines_of, lines_whole, map-append, nat_le, only_pair, open_line, pair_begun, pairs_are_full, pairs_format, pairs_input, pairs_said_after, profile_given, profile_taken, read_none, refused_at, rule_place, said_after, schedule_format, slice_get, slice_split, steps, stop_at, texts, title_taken, title_text, with_room}
use Rattle.schedule_file.specs.PairsInput.{entries_of}
use Rattle.std.proofs.Common.{◌≡◌, ℕ, ◌+◌, ◌<◌, ◌≤◌, Bool, true, false, List, [], ◌∷◌, ◌++◌, length, take, map, refl, ap, ◌∙◌, sym, subst, append_assoc, arith, rules}
use Rattle.std.specs.Prelude.{if◌then◌else◌}
use Rattle.fsoe_io.specs.declared.status.Status.TheVariants as status
use Rattle.schedule_file.specs.HeaderLine.{header_line}
use Rattle.schedule_file.specs.HeaderPart.{master_with_app, slave_with_bytes, slave_with_pairs}
use Rattle.schedule_file.specs.PairsHeader.{pairs_heading_new}
use Rattle.schedule_file.specs.PairsLine.{pairs_event_of}
use Rattle.schedule_file.specs.declared.event.TheConstants.{MAX_EVENTS}
use Rattle.schedule_file.specs.declared.event.ScheduleLine.TheVariants as said
use Rattle.schedule_file.specs.declared.header_kind.HeaderKind.TheVariants as kind
use Rattle.schedule_file.specs.declared.header_line.HeaderLine.{HeaderLine}
use Rattle.schedule_file.specs.declared.header_line.HeaderLine.TheVariants as says
use Rattle.schedule_file.specs.declared.header_line.RuleLine.{RuleLine}
use Rattle.schedule_file.specs.declared.line_cause.LineCause.TheVariants as cause
use Rattle.schedule_file.specs.declared.pairs_line.PairsEvent.TheVariants as pairs_event
use Rattle.schedule_file.specs.declared.pairs_line.PairsLine.{PairsLine}
use Rattle.schedule_file.specs.declared.place.Place.{Place}
use Rattle.pair_convert.proofs.Conversion.SameLines.{event_line_same, header_line_same, last_line_same}
use Rattle.pair_convert.proofs.Conversion.Short.{line_short}
use Rattle.pair_convert.proofs.Conversion.Converted.{Lines, Whole, events_by, events_in, heading_line, of_heading, reading, told, told_events, told_whole}

-- the lines of an input are lines
abbrev HaveNoNewlines : List (List ℕ) → Type 0
HaveNoNewlines [] = Unit {0}
HaveNoNewlines (part ∷ parts) = HasNoNewline part × HaveNoNewlines parts

split_at : (x : ℕ) (xs : List ℕ) (b : Bool) → is_newline x ≡ b → HaveNoNewlines (slice_split is_newline xs) → HaveNoNewlines (slice_split is_newline (x ∷ xs))
split_at x xs b h k = grind arith

split_none : (xs : List ℕ) → HaveNoNewlines (slice_split is_newline xs)
split_none [] = (All-nil (λ b. is_newline b ≡ false), tt)
split_none (x ∷ xs) = split_at x xs (is_newline x) refl (split_none xs)

abbrev IsLineOrNone : Result (List ℕ) InputCause → Type 0
IsLineOrNone (Ok text) = IsLine text
IsLineOrNone (Err why) = Unit {0}

abbrev AreLines : Lines → Type 0
AreLines [] = Unit {0}
AreLines (line ∷ lines) = IsLineOrNone line × AreLines lines

whole_is : (text : List ℕ) (b : Bool) → nat_le (length text) 640 ≡ b → HasNoNewline text → IsLineOrNone (if b then Ok text else Err Long)
whole_is text b h k = grind arith

open_is : (text : List ℕ) → AreLines (open_line text)
open_is text = grind arith

parts_are : (parts : List (List ℕ)) → HaveNoNewlines parts → AreLines (lines_in parts)
parts_are [] none = tt
parts_are (last ∷ []) none = open_is last
parts_are (text ∷ next ∷ parts) none = (whole_is text (nat_le (length text) 640) refl none.0, parts_are (next ∷ parts) none.1)

lines_are : (bytes : List ℕ) → AreLines (lines_of bytes)
lines_are bytes = parts_are (slice_split is_newline bytes) (split_none bytes)

-- a line that is written is read again, and what comes after it
line_read : (line more : List ℕ) → IsLine line → lines_of (line_text line ++ more) ≡ Ok line ∷ lines_of more
line_read line more is = ap lines_of (append_assoc line (10 ∷ []) more) ∙ lines_whole line more is

-- a line with the number of the pair is one
numbered_line_is : (h : Heading) (line : List ℕ) (event : Event) → IsLine line → said_after kind.Pair h line ≡ Ok (said.Step event) → IsLine (codes "1 " ++ line)
numbered_line_is h line event k l = search (rules, line_short)

-- an event of the only pair
abbrev pub of_one : Event → PairsEvent
of_one event = pairs_event.One 1 event

one_entry : (pairs : ℕ) (log : List Event) → entries_of pairs (map of_one log) ≡ length log
one_entry pairs [] = refl
one_entry pairs (event ∷ log) = let later = one_entry pairs log in omega (arith, later)

has_room : (h : Heading) (log : List Event) → length log < MAX_EVENTS → pairs_are_full (only_pair h) (map of_one log) ≡ false
has_room h log k = search (rules, one_entry)

-- after some events of the only pair, lines say these events, and then `end`
record SayEvents (h : Heading) (log events : List Event) (lines : Lines) : Type 0 where
  said : with_room (pairs_are_full (only_pair h)) (map of_one log) (steps pairs_event_of (map (pairs_said_after (only_pair h)) (texts lines))) ≡ map of_one events
  ends : slice_get lines (length events) ≡ Some (Ok (codes "end"))

end_said : (h : Heading) (log : List Event) → SayEvents h log [] (lines_of (codes "end\n"))
end_said h log = record {
  said = ap (λ (r : Result PairsLine LineCause). with_room (pairs_are_full (only_pair h)) (map of_one log) (steps pairs_event_of (r ∷ []))) (last_line_same h);
  ends = refl;
}

event_said : (h : Heading) (log events : List Event) (line more : List ℕ) (event : Event) → IsLine line → said_after kind.Pair h line ≡ Ok (said.Step event) → length log < MAX_EVENTS → SayEvents h (log ++ event ∷ []) events (lines_of more)
    → SayEvents h log (event ∷ events) (lines_of (event_text line ++ more))
event_said h log events line more event is say few later =
    let full : List PairsEvent → Bool = pairs_are_full (only_pair h) in
    let rest : List (Result PairsLine LineCause) = map (pairs_said_after (only_pair h)) (texts (lines_of more)) in
    subst (SayEvents h log (event ∷ events)) (sym (line_read (codes "1 " ++ line) more (numbered_line_is h line event is say))) (record {
      said = ap (λ (r : Result PairsLine LineCause). with_room full (map of_one log) (steps pairs_event_of (r ∷ rest))) (event_line_same h line event say)
          ∙ ap (λ (b : Bool). if b then [] else of_one event ∷ with_room full (map of_one log ++ of_one event ∷ []) (steps pairs_event_of rest)) (has_room h log few)
          ∙ ap (λ (l : List PairsEvent). of_one event ∷ with_room full l (steps pairs_event_of rest)) (sym (map-append of_one log (event ∷ [])))
          ∙ ap (λ (es : List PairsEvent). of_one event ∷ es) later.said;
      ends = later.ends;
    })

-- so do the lines of an input's events, converted
abbrev AreSaid : Heading → List Event → List (List ℕ) → List Event → Type 0
AreSaid h log lines events = SayEvents h log events (lines_of (flat_map event_text (take (length events) lines) ++ codes "end\n"))

room_left : (log : List Event) → is_full log ≡ false → length log ≤ MAX_EVENTS → length log < MAX_EVENTS
room_left log e few = grind arith

line_said : (h : Heading) (log : List Event) (line : List ℕ) (rest : Lines) → IsLine line → length log ≤ MAX_EVENTS
    → ((event : Event) → length (log ++ event ∷ []) ≤ MAX_EVENTS → AreSaid h (log ++ event ∷ []) (texts rest) (events_in h (log ++ event ∷ []) rest))
    → (full : Bool) (says : Result ScheduleLine LineCause) → is_full log ≡ full → said_after kind.Pair h line ≡ says → AreSaid h log (line ∷ texts rest) (events_by h log rest says)
line_said h log line rest is few later true (Ok (said.Step event)) e d =
    subst (λ (b : Bool). AreSaid h log (line ∷ texts rest) (if b then [] else event ∷ events_in h (log ++ event ∷ []) rest)) (sym e) (end_said h log)
line_said h log line rest is few later false (Ok (said.Step event)) e d =
    let es : List Event = events_in h (log ++ event ∷ []) rest in
    let text : List ℕ = flat_map event_text (take (length es) (texts rest)) in
    let room : length log < MAX_EVENTS = room_left log e few in
    let longer = length_push log event in
    subst (λ (b : Bool). AreSaid h log (line ∷ texts rest) (if b then [] else event ∷ es)) (sym e)
    (subst (λ (t : List ℕ). SayEvents h log (event ∷ es) (lines_of t)) (sym (append_assoc (event_text line) text (codes "end\n")))
    (event_said h log es line (text ++ codes "end\n") event is d room (later event (omega (arith, longer, room)))))
line_said h log line rest is few later full _ e d = end_said h log

events_said : (h : Heading) (lines : Lines) (log : List Event) → AreLines lines → length log ≤ MAX_EVENTS → AreSaid h log (texts lines) (events_in h log lines)
events_said h (Ok line ∷ rest) log are few = line_said h log line rest are.0 few (λ event more. events_said h rest (log ++ event ∷ []) are.1 more) (is_full log) (said_after kind.Pair h line) refl refl
events_said h _ log are few = end_said h log

-- after a line of a header it isn't at its start
profile_started : (p : Place) (h : Heading) (word : ℕ) → is_start (profile_taken p h word).place ≡ false
profile_started p h word = grind arith

rule_started : (line : RuleLine) → is_start (rule_place line) ≡ false
rule_started line = grind arith

abbrev IsStarted : Heading → Type 0
IsStarted h = is_start h.place ≡ false

with_started : (h : Heading) (line : HeaderLine) → IfOk (heading_with h line) IsStarted
with_started h (says.Profile word) = profile_started h.place h word
with_started h (says.App bytes) = IfOk-map (master_with_app h.master bytes) _ _ (IfOk-every (master_with_app h.master bytes) _ (λ _. refl))
with_started h (says.Rule line) = rule_started line
with_started h (says.Bytes bytes) = IfOk-map (slave_with_bytes h.slave bytes) _ _ (IfOk-every (slave_with_bytes h.slave bytes) _ (λ _. refl))
with_started h (says.Range pairs) = IfOk-map (slave_with_pairs h.slave pairs) _ _ (IfOk-every (slave_with_pairs h.slave pairs) _ (λ _. refl))
with_started h _ = refl

fields_started : (h : Heading) (fields : List (List ℕ)) → IfOk (fields_taken h fields) IsStarted
fields_started h [] = tt
fields_started h (first ∷ fields) =
    each (admitted h.kind h.place (header_word_of first)) _ _ (λ word. each (header_line word fields) _ _ (λ line. each (profile_given h word) _ _ (λ given. with_started h line)))

after_started : (h : Heading) (line : List ℕ) → IsStarted h → IfOk (heading_after h line) IsStarted
after_started h line started =
    subst (λ (b : Bool). IfOk (if b then title_taken h line else fields_taken h (fields_of line)) IsStarted) (sym started) (fields_started h (fields_of line))

abbrev pairs_header : ℕ → PairsHeading → Lines → Result (WholeHeaderOf PairsHeading) Stop
pairs_header n h lines = header_in pairs_format n h lines

line_follows : (h next : Heading) (line more : List ℕ) (n : ℕ) → IsStarted h → heading_is_whole h ≡ false → heading_after h line ≡ Ok next → IsLine line
    → pairs_header n (only_pair h) (lines_of (line_text line ++ more)) ≡ (if heading_is_whole next then Ok (record { heading = only_pair next; lines = n; rest = lines_of more }) else pairs_header (n + 1) (only_pair next) (lines_of more))
line_follows h next line more n k l m o = search (rules, line_read, header_line_same)

-- what is converted comes to its `end`
abbrev Ends : Whole → Type 0
Ends whole = whole.ended ≡ ended_at_stop AtEnd

never_ends : (number : ℕ) → refused_at number ≡ ended_at_stop AtEnd → ⊥
never_ends number e = let same : status.Line ≡ status.Ok = ap (λ (ended : Ended). ended.status) e in cc

last_is : (stop : Stop) → ended_at_stop stop ≡ ended_at_stop AtEnd → last_text stop ≡ codes "end\n"
last_is AtEnd e = refl
last_is (Refused number why) e = absurd (never_ends number e)

-- the lines after the header
length-of_one : (events : List Event) → length (map of_one events) ≡ length events
length-of_one events = grind (arith, common_steps)

stops_at_end : (h : Heading) (number : ℕ) (full : Bool) → stop_at pairs_format (only_pair h) number full (Some (Ok (codes "end"))) ≡ AtEnd
stops_at_end h number full = grind arith

one_input : (h : Heading) (n : ℕ) (lines : Lines) (events : List Event) → SayEvents h [] events lines → IsOnePair h events (input_after pairs_format (record { heading = only_pair h; lines = n; rest = lines }))
one_input h n lines events say = search (rules, length-of_one, stops_at_end)

rest_read : (h : Heading) (number n : ℕ) (rest : Lines) → AreLines rest → heading_is_whole h ≡ true → Ends (told number (reading h []) rest)
    → IsOnePair h (events_in h [] rest) (input_after pairs_format (record { heading = only_pair h; lines = n; rest = lines_of (told number (reading h []) rest).text }))
rest_read h number n rest are whole ends =
    let es : List Event = events_in h [] rest in
    let is = told_events h whole number [] rest in
    let stop : Stop = stop_at (schedule_format kind.Pair) h (number + length es) (is_full es) (slice_get rest (length es)) in
    let last : last_text stop ≡ codes "end\n" = last_is stop (ap (λ (w : Whole). w.ended) (sym is) ∙ ends) in
    let text : (told number (reading h []) rest).text ≡ flat_map event_text (take (length es) (texts rest)) ++ codes "end\n" =
    ap (λ (w : Whole). w.text) is ∙ ap (λ (t : List ℕ). flat_map event_text (take (length es) (texts rest)) ++ t) last
    in
    one_input h n _ es (subst (λ (t : List ℕ). SayEvents h [] es (lines_of t)) (sym text) (events_said h rest [] are (omega arith)))

-- what the lines of a header and those after it are converted to is read as a file of one pair, which says the same
abbrev pub IsSame : Input → InputOf PairsHeading PairsEvent → Type 0
IsSame input pairs = IsSomeAnd input.heading (λ h. IsOnePair h input.events pairs)

abbrev IsRead : Result WholeHeader Stop → Heading → Whole → Type 0
IsRead headed h whole = Ends whole → (n : ℕ) → IsSame (input_by (schedule_format kind.Pair) headed) (input_by pairs_format (pairs_header n (only_pair h) (lines_of whole.text)))

abbrev pair_header : ℕ → Heading → Lines → Result WholeHeader Stop
pair_header m h lines = header_in (schedule_format kind.Pair) m h lines

later_piece : (m : ℕ) (line : List ℕ) → 2 ≤ m → header_piece m line ≡ line_text line
later_piece m line late = grind arith

follow_next : (m n : ℕ) (next : Heading) (rest : Lines) (whole : Bool) → AreLines rest → heading_is_whole next ≡ whole → (heading_is_whole next ≡ false → IsRead (pair_header (m + 1) next rest) next (told (m + 1) (reading next []) rest))
    → Ends (told (m + 1) (reading next []) rest)
    → IsSame (input_by (schedule_format kind.Pair) (if whole then Ok (record { heading = next; lines = m; rest = rest }) else pair_header (m + 1) next rest))
    (input_by pairs_format (if whole then Ok (record { heading = only_pair next; lines = n; rest = lines_of (told (m + 1) (reading next []) rest).text }) else pairs_header (n + 1) (only_pair next) (lines_of (told (m + 1) (reading next []) rest).text)))
follow_next m n next rest true are whole later ends = rest_read next (m + 1) n rest are whole ends
follow_next m n next rest false are more later ends = later more ends (n + 1)

follow_line : (m : ℕ) (h : Heading) (line : List ℕ) (rest : Lines) (taken : Result Heading LineCause) → 2 ≤ m → IsStarted h → heading_is_whole h ≡ false → heading_after h line ≡ taken → IsLine line → AreLines rest
    → ((next : Heading) → IsStarted next → heading_is_whole next ≡ false → IsRead (pair_header (m + 1) next rest) next (told (m + 1) (reading next []) rest))
    → IsRead (header_step heading_is_whole m rest (λ next. pair_header (m + 1) next rest) taken) h (of_heading m (reading h []) line rest taken)
follow_line m h line rest (Ok next) late started more taken is are later = λ ends n.
    let text : List ℕ = (told (m + 1) (reading next []) rest).text in
    let input : Input = input_by (schedule_format kind.Pair) (header_step heading_is_whole m rest (λ next. pair_header (m + 1) next rest) (Ok next)) in
    subst (λ (piece : List ℕ). IsSame input (input_by pairs_format (pairs_header n (only_pair h) (lines_of (piece ++ text))))) (sym (later_piece m line late))
    (subst (λ (r : Result (WholeHeaderOf PairsHeading) Stop). IsSame input (input_by pairs_format r)) (sym (line_follows h next line text n started more taken is))
    (follow_next m n next rest (heading_is_whole next) are refl (later next (IfOk-at_ok IsStarted taken (after_started h line started))) ends))
follow_line m h line rest (Err cause) late started more taken is are later = λ ends n. absurd (never_ends m ends)

follow : (m : ℕ) (h : Heading) (lines : Lines) → 2 ≤ m → IsStarted h → heading_is_whole h ≡ false → AreLines lines → IsRead (pair_header m h lines) h (told m (reading h []) lines)
follow m h (Ok line ∷ rest) late started more are =
    subst (IsRead (pair_header m h (Ok line ∷ rest)) h) (heading_line m h line rest more)
    (follow_line m h line rest (heading_after h line) late started more refl are.0 are.1 (λ next s open_yet. follow (m + 1) next rest (omega arith) s open_yet are.1))
follow m h _ late started more are = λ ends n. absurd (never_ends m ends)

-- the first two lines
titles_read : (more : List ℕ) → lines_of (title_text ++ more) ≡ Ok (codes "fsoe 2 pairs") ∷ Ok (codes "pair 1") ∷ lines_of more
titles_read more =
    line_read (codes "fsoe 2 pairs") (line_text (codes "pair 1") ++ more) (omega arith, (split_none (codes "fsoe 2 pairs")).0)
    ∙ ap (λ (ls : Lines). Ok (codes "fsoe 2 pairs") ∷ ls) (line_read (codes "pair 1") more (omega arith, (split_none (codes "pair 1")).0))

by_title : (title : List ℕ) (rest : Lines) (is_title : Bool) → AreLines rest → Ends (of_heading 1 read_none title rest (if is_title then Ok pair_begun else Err cause.Header))
    → IsSame (input_by (schedule_format kind.Pair) (header_step heading_is_whole 1 rest (λ next. pair_header 2 next rest) (if is_title then Ok pair_begun else Err cause.Header)))
    (pairs_input (of_heading 1 read_none title rest (if is_title then Ok pair_begun else Err cause.Header)).text)
by_title title rest true are ends =
    let text : List ℕ = (told 2 (reading pair_begun []) rest).text in
    subst (λ (lines : Lines). IsSame (input_by (schedule_format kind.Pair) (pair_header 2 pair_begun rest)) (input_by pairs_format (header_in pairs_format 1 pairs_heading_new lines))) (sym (titles_read text))
    (follow 2 pair_begun rest (omega arith) refl refl are ends 3)
by_title title rest false are ends = absurd (never_ends 1 ends)

by_lines : (lines : Lines) → AreLines lines → Ends (told 1 read_none lines) → IsSame (input_by (schedule_format kind.Pair) (pair_header 1 (heading_new kind.Pair) lines)) (pairs_input (told 1 read_none lines).text)
by_lines (Ok title ∷ rest) are ends = by_title title rest (bytes_eq title (codes "fsoe 1 pair")) are.1 ends
by_lines _ are ends = absurd (never_ends 1 ends)

pub converts : (bytes : List ℕ) → (input_of kind.Pair bytes).stop ≡ AtEnd → IsSame (input_of kind.Pair bytes) (pairs_input (converted bytes))
converts bytes stops =
    let whole = told_whole bytes in
    subst (λ (t : List ℕ). IsSame (input_of kind.Pair bytes) (pairs_input t)) (ap (λ (w : Whole). w.text) whole)
    (by_lines (lines_of bytes) (lines_are bytes) (ap (λ (w : Whole). w.ended) whole ∙ ap ended_at_stop stops))
