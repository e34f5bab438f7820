-- What the lines of a pair file are converted to one by one is what the file is converted to.
use Rattle.pair_convert.proofs.Common.{AtEnd, Ended, Err, Event, Heading, IfOk, InputCause, Line, LineCause, LineTaken, NoLine, Ok, PairRead, Refused, Result, ScheduleLine, Stop, TooMany, WholeHeader, append-nil, bytes_eq, codes, converted_by, end_taken, ended_at_stop, event_of, event_taken, event_text, flat_map, full_taken, header_in, header_of, header_piece, header_step, header_taken, header_text, heading_after, heading_is_whole, heading_new, input_after, input_by, is_full, last_text, later_taken, length_push, line_of_end, line_taken, line_text, lines_before, lines_of, read_none, refused_at, refused_line, said_after, schedule_format, slice_get, steps, stop_at, stop_by, stop_full, texts, with_room}
use Rattle.std.proofs.Common.{◌≡◌, ℕ, suc, ◌+◌, Bool, true, false, List, [], ◌∷◌, ◌++◌, length, take, map, refl, ap, ◌∙◌, sym, subst, append_assoc, add-zero, arith, rules}
use Rattle.std.specs.Prelude.{◌==◌, if◌then◌else◌}
use Rattle.schedule_file.specs.declared.event.ScheduleLine.TheVariants as said
use Rattle.schedule_file.specs.declared.header_kind.HeaderKind.TheVariants as kind

abbrev pub Lines : Type 0
Lines = List (Result (List ℕ) InputCause)

-- a text that is written, how the run ends that writes it, and the number of the line that ends it
pub record Whole : Type 0 where
  pub text : List ℕ
  pub ended : Ended
  pub line : ℕ

-- the same after a first part
abbrev pub after_part : List ℕ → Whole → Whole
after_part part whole = record whole { text = part ++ whole.text }

-- what is written where the line of this number is refused
abbrev pub refused_whole : ℕ → InputCause → Whole
refused_whole number why = record { text = refused_line number why; ended = refused_at number; line = number }

-- and where it is the last
abbrev pub end_whole : ℕ → List ℕ → Whole
end_whole number text = record { text = text; ended = ended_at_stop AtEnd; line = number }

abbrev pub ends_or : ℕ → Bool → List ℕ → Whole → Whole
ends_or number true text later = end_whole number text
ends_or number false text later = after_part text later

-- what is written of a line that was taken so, and of those after it
abbrev pub told_by : ℕ → Result LineTaken InputCause → (PairRead → Whole) → Whole
told_by number (Ok taken) later = ends_or number taken.ends taken.text (later taken.next)
told_by number (Err why) later = refused_whole number why

-- what is written of lines, of which the first has this number, one by one
abbrev pub told : ℕ → PairRead → Lines → Whole
told number r [] = refused_whole number NoLine
told number r (Err why ∷ rest) = refused_whole number why
told number r (Ok line ∷ rest) = told_by number (line_taken number r line) (λ next. told (number + 1) next rest)

-- what is written after a header, by its events: so many of these lines, and the last, which has this number
abbrev later_whole : ℕ → ℕ → Stop → List (List ℕ) → Whole
later_whole n number stop lines = record { text = flat_map event_text (take n lines) ++ last_text stop; ended = ended_at_stop stop; line = number }

-- the events that stand after others in lines, and how these stop the input
abbrev pub events_in : Heading → List Event → Lines → List Event
events_in h log lines = with_room is_full log (steps event_of (map (said_after kind.Pair h) (texts lines)))

abbrev pub reading : Heading → List Event → PairRead
reading h log = record { heading = h; events = length log }

-- the same, where these are the events
abbrev result_of : Heading → ℕ → List Event → Lines → List Event → Whole
result_of h number log lines es =
    later_whole (length es) (number + length es) (stop_at (schedule_format kind.Pair) h (number + length es) (is_full (log ++ es)) (slice_get lines (length es))) (texts lines)

-- what is written of the last line alone
abbrev last_whole : ℕ → Stop → Whole
last_whole number stop = record { text = last_text stop; ended = ended_at_stop stop; line = number }

abbrev stop_line : ℕ → List ℕ → Bool → Result ScheduleLine LineCause → Stop
stop_line number text full says = if full then stop_full number text else stop_by event_of number says

no_events : (h : Heading) (number : ℕ) (log : List Event) (text : List ℕ) (rest : Lines) → result_of h number log (Ok text ∷ rest) [] ≡ last_whole number (stop_line number text (is_full log) (said_after kind.Pair h text))
no_events h number log text rest =
    ap (λ (n : ℕ). last_whole n (stop_line n text (is_full (log ++ [])) (said_after kind.Pair h text))) (add-zero number)
    ∙ ap (λ (es : List Event). last_whole number (stop_line number text (is_full es) (said_after kind.Pair h text))) (append-nil log)

-- one event more
one_event : (h : Heading) (number : ℕ) (log : List Event) (text : List ℕ) (rest : Lines) (event : Event) (es : List Event)
    → after_part (event_text text) (result_of h (number + 1) (log ++ event ∷ []) rest es) ≡ result_of h number log (Ok text ∷ rest) (event ∷ es)
one_event h number log text rest event es =
    let stop : ℕ → List Event → Stop = λ n all. stop_at (schedule_format kind.Pair) h n (is_full all) (slice_get rest (length es)) in
    let lines : List ℕ = flat_map event_text (take (length es) (texts rest)) in
    let last : ℕ = number + length (event ∷ es) in
    let at : number + 1 + length es ≡ last = omega arith in
    let all : (log ++ event ∷ []) ++ es ≡ log ++ event ∷ es = append_assoc log (event ∷ []) es in
    ap (λ (n : ℕ). after_part (event_text text) (later_whole (length es) n (stop n ((log ++ event ∷ []) ++ es)) (texts rest))) at
    ∙ ap (λ (log : List Event). after_part (event_text text) (later_whole (length es) last (stop last log) (texts rest))) all
    ∙ ap (λ (t : List ℕ). record { text = t; ended = ended_at_stop (stop last (log ++ event ∷ es)); line = last })
    (sym (append_assoc (event_text text) lines (last_text (stop last (log ++ event ∷ es)))))

-- what is written of a line after the header
abbrev of_line : ℕ → PairRead → List ℕ → Lines → Bool → Result ScheduleLine LineCause → Whole
of_line number r text rest full says = told_by number (if full then full_taken r text else event_taken r text says) (λ next. told (number + 1) next rest)

full_line : (number : ℕ) (r : PairRead) (text : List ℕ) (later : PairRead → Whole) (is_end : Bool) → told_by number (if is_end then Ok (end_taken r) else Err TooMany) later ≡ last_whole number (if is_end then AtEnd else Refused number TooMany)
full_line number r text later is_end = grind arith

-- the events that stand in these lines, where the first says this
abbrev pub events_by : Heading → List Event → Lines → Result ScheduleLine LineCause → List Event
events_by h log rest says = with_room is_full log (steps event_of (says ∷ map (said_after kind.Pair h) (texts rest)))

none_when_full : (h : Heading) (log : List Event) (rest : Lines) (says : Result ScheduleLine LineCause) → is_full log ≡ true → events_by h log rest says ≡ []
none_when_full h log rest says k = grind arith

line_told : (h : Heading) (number : ℕ) (log : List Event) (text : List ℕ) (rest : Lines)
    → ((event : Event) → told (number + 1) (reading h (log ++ event ∷ [])) rest ≡ result_of h (number + 1) (log ++ event ∷ []) rest (events_in h (log ++ event ∷ []) rest))
    → (full : Bool) (says : Result ScheduleLine LineCause) → is_full log ≡ full → said_after kind.Pair h text ≡ says
    → of_line number (reading h log) text rest full says ≡ result_of h number log (Ok text ∷ rest) (events_by h log rest says)
line_told h number log text rest later true says e d =
    full_line number (reading h log) text (λ next. told (number + 1) next rest) (bytes_eq text (codes "end"))
    ∙ ap (λ (b : Bool). last_whole number (stop_line number text b (said_after kind.Pair h text))) (sym e) ∙ sym (no_events h number log text rest)
    ∙ ap (result_of h number log (Ok text ∷ rest)) (sym (none_when_full h log rest says e))
line_told h number log text rest later false (Ok (said.Step event)) e d =
    ap (λ (n : ℕ). after_part (event_text text) (told (number + 1) (record { heading = h; events = n }) rest)) (sym (length_push log event))
    ∙ ap (after_part (event_text text)) (later event) ∙ one_event h number log text rest event (events_in h (log ++ event ∷ []) rest)
    ∙ ap (λ (b : Bool). result_of h number log (Ok text ∷ rest) (if b then [] else event ∷ events_in h (log ++ event ∷ []) rest)) (sym e)
line_told h number log text rest later false _ e d =
    ap (λ (s : Result ScheduleLine LineCause). last_whole number (stop_line number text false s)) (sym d)
    ∙ ap (λ (b : Bool). last_whole number (stop_line number text b (said_after kind.Pair h text))) (sym e) ∙ sym (no_events h number log text rest)

pub told_events : (h : Heading) → heading_is_whole h ≡ true → (number : ℕ) (log : List Event) (lines : Lines) → told number (reading h log) lines ≡ result_of h number log lines (events_in h log lines)
told_events h whole number log [] = ap (λ (n : ℕ). refused_whole n NoLine) (sym (add-zero number))
told_events h whole number log (Err why ∷ rest) = ap (λ (n : ℕ). refused_whole n why) (sym (add-zero number))
told_events h whole number log (Ok text ∷ rest) =
    ap (λ (b : Bool). told_by number (if b then later_taken (reading h log) text else header_taken number (reading h log) text (heading_after h text)) (λ next. told (number + 1) next rest)) whole
    ∙ line_told h number log text rest (λ event. told_events h whole (number + 1) (log ++ event ∷ []) rest) (is_full log) (said_after kind.Pair h text) refl refl

-- the lines of a header from its first on, or from a later one on
abbrev pieces : Bool → List (List ℕ) → List ℕ
pieces true lines = header_text lines
pieces false lines = flat_map line_text lines

no_part : (first : Bool) (lines : List (List ℕ)) (w : Whole) → w ≡ after_part (pieces first (take 0 lines)) w
no_part first lines w = grind arith

-- the number of the line that ends an input, by its header
abbrev pub last_number : Result WholeHeader Stop → ℕ
last_number (Ok headed) = line_of_end (input_after (schedule_format kind.Pair) headed)
last_number (Err AtEnd) = 1
last_number (Err (Refused number why)) = number

-- what is written after the lines of a header that ends so
abbrev after_header : Result WholeHeader Stop → Whole
after_header (Ok headed) = told (headed.lines + 1) (reading headed.heading []) headed.rest
after_header (Err stop) = last_whole (last_number (Err stop)) stop

-- how many lines these are
abbrev lines_headed : Result WholeHeader Stop → ℕ
lines_headed (Ok headed) = headed.lines
lines_headed (Err stop) = lines_before stop

-- how the lines of a header go on, where so many stand before them
record Goes (m : ℕ) (lines : Lines) (whole : Whole) (headed : Result WholeHeader Stop) : Type 0 where
  j : ℕ
  count : lines_headed headed ≡ m + j
  ends : IfOk headed (λ whole. heading_is_whole whole.heading ≡ true)
  is : whole ≡ after_part (pieces (m + 1 == 1) (take j (texts lines))) (after_header headed)

halts_here : (m : ℕ) (lines : Lines) (why : InputCause) → Goes m lines (refused_whole (m + 1) why) (Err (Refused (m + 1) why))
halts_here m lines why = record { j = 0; count = omega arith; ends = tt; is = no_part (m + 1 == 1) (texts lines) (refused_whole (m + 1) why) }

pub two_parts : (p q : List ℕ) (w : Whole) → after_part p (after_part q w) ≡ after_part (p ++ q) w
two_parts p q w = ap (λ (t : List ℕ). record w { text = t }) (sym (append_assoc p q w.text))

piece_before : (m : ℕ) (line : List ℕ) (rest : Lines) (j : ℕ) (whole w : Whole) → whole ≡ after_part (pieces (m + 1 + 1 == 1) (take j (texts rest))) w
    → after_part (header_piece (m + 1) line) whole ≡ after_part (pieces (m + 1 == 1) (line ∷ take j (texts rest))) w
piece_before m line rest j whole w h = search (rules, two_parts)

-- what is written of the lines of a header, which is done or goes no further
abbrev pub of_heading : ℕ → PairRead → List ℕ → Lines → Result Heading LineCause → Whole
of_heading number r line rest next = told_by number (header_taken number r line next) (λ next. told (number + 1) next rest)

pub heading_line : (number : ℕ) (h : Heading) (line : List ℕ) (rest : Lines) → heading_is_whole h ≡ false → of_heading number (reading h []) line rest (heading_after h line) ≡ told number (reading h []) (Ok line ∷ rest)
heading_line number h line rest open_yet = grind arith

heading_goes : (m : ℕ) (line : List ℕ) (rest : Lines) (next : Heading) (done : Bool) → heading_is_whole next ≡ done
    → (heading_is_whole next ≡ false → Goes (m + 1) rest (told (m + 1 + 1) (reading next []) rest) (header_in (schedule_format kind.Pair) (m + 1 + 1) next rest))
    → Goes m (Ok line ∷ rest) (after_part (header_piece (m + 1) line) (told (m + 1 + 1) (reading next []) rest)) (if done then Ok (record { heading = next; lines = m + 1; rest = rest }) else header_in (schedule_format kind.Pair) (m + 1 + 1) next rest)
heading_goes m line rest next true whole later = record { j = 1; count = refl; ends = whole; is = piece_before m line rest 0 _ _ (no_part (m + 1 + 1 == 1) (texts rest) (told (m + 1 + 1) (reading next []) rest)) }
heading_goes m line rest next false more later =
    let goes = later more in
    record { j = suc goes.j; count = goes.count ∙ omega arith; ends = goes.ends; is = piece_before m line rest goes.j _ _ goes.is }

heading_told : (m : ℕ) (h : Heading) (line : List ℕ) (rest : Lines) → ((next : Heading) → heading_is_whole next ≡ false → Goes (m + 1) rest (told (m + 1 + 1) (reading next []) rest) (header_in (schedule_format kind.Pair) (m + 1 + 1) next rest))
    → (next : Result Heading LineCause) → Goes m (Ok line ∷ rest) (of_heading (m + 1) (reading h []) line rest next) (header_step heading_is_whole (m + 1) rest (λ next. header_in (schedule_format kind.Pair) (m + 1 + 1) next rest) next)
heading_told m h line rest later (Err cause) = halts_here m (Ok line ∷ rest) (Line cause)
heading_told m h line rest later (Ok next) = heading_goes m line rest next (heading_is_whole next) refl (later next)

told_header : (m : ℕ) (h : Heading) (lines : Lines) → heading_is_whole h ≡ false → Goes m lines (told (m + 1) (reading h []) lines) (header_in (schedule_format kind.Pair) (m + 1) h lines)
told_header m h [] open_yet = halts_here m [] NoLine
told_header m h (Err why ∷ rest) open_yet = halts_here m (Err why ∷ rest) why
told_header m h (Ok line ∷ rest) open_yet =
    subst (λ (w : Whole). Goes m (Ok line ∷ rest) w (header_in (schedule_format kind.Pair) (m + 1) h (Ok line ∷ rest))) (heading_line (m + 1) h line rest open_yet)
    (heading_told m h line rest (λ next e. told_header (m + 1) next rest e) (heading_after h line))

-- what an input is converted to, and how the conversion ends
abbrev whole_by : Result WholeHeader Stop → List (List ℕ) → Whole
whole_by r lines = record { text = converted_by r lines; ended = ended_at_stop (input_by (schedule_format kind.Pair) r).stop; line = last_number r }

abbrev pub converted_whole : List ℕ → Whole
converted_whole bytes = whole_by (header_of kind.Pair bytes) (texts (lines_of bytes))

by_header : (lines : Lines) (whole : Whole) (r : Result WholeHeader Stop) → Goes 0 lines whole r → whole ≡ whole_by r (texts lines)
by_header lines whole (Ok headed) goes =
    let h : Heading = headed.heading in
    let es : List Event = events_in h [] headed.rest in
    let at : headed.lines + 1 + length es ≡ headed.lines + length es + 1 = omega arith in
    let j : goes.j ≡ headed.lines = omega (arith, goes.count) in
    goes.is ∙ ap (after_part (header_text (take goes.j (texts lines)))) (told_events h goes.ends (headed.lines + 1) [] headed.rest)
    ∙ ap (λ (n : ℕ). after_part (header_text (take n (texts lines))) (result_of h (headed.lines + 1) [] headed.rest es)) j
    ∙ ap (λ (n : ℕ). after_part (header_text (take headed.lines (texts lines))) (later_whole (length es) n (stop_at (schedule_format kind.Pair) h n (is_full es) (slice_get headed.rest (length es))) (texts headed.rest))) at
by_header lines whole (Err stop) goes =
    let j : goes.j ≡ lines_before stop = omega (arith, goes.count) in
    goes.is ∙ ap (λ (n : ℕ). after_part (header_text (take n (texts lines))) (last_whole (last_number (Err stop)) stop)) j

pub told_whole : (bytes : List ℕ) → told 1 read_none (lines_of bytes) ≡ converted_whole bytes
told_whole bytes = by_header (lines_of bytes) (told 1 read_none (lines_of bytes)) (header_of kind.Pair bytes) (told_header 0 (heading_new kind.Pair) (lines_of bytes) refl)
