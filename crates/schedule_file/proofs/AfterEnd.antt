-- What comes after the line `end` changes nothing.
use Rattle.schedule_file.proofs.Common.{AtEnd, Err, HeaderKind, InputCause, InputFormat, LineCause, NoLine, Ok, Refused, Result, Some, Stop, WholeHeaderOf, header_in, header_step, input_by, input_of, input_read, length-slice_split, lines_in, lines_of, onto_first, open_line, schedule_format, slice_get, slice_split, slice_split-cons_no, slice_split-cons_yes, steps, texts, whole_line, with_room}
use Rattle.std.proofs.Common.{◌≡◌, ℕ, ◌+◌, Bool, true, false, List, [], ◌∷◌, ◌++◌, length, map, refl, ap, ◌∙◌, sym, arith, rules}
use Rattle.std.specs.Prelude.{◌==◌}
use Rattle.schedule_file.proofs.OneField.{some_part}

-- the lines of an input
abbrev Lines : Type 0
Lines = List (Result (List ℕ) InputCause)

abbrev is_newline : ℕ → Bool
is_newline b = b == 10

-- bytes cut at their newlines, and the same with more bytes: the last part goes on
record Cut (bytes more : List ℕ) : Type 0 where
  front : List (List ℕ)
  last : List ℕ
  next : List ℕ
  tail : List (List ℕ)
  parts : slice_split is_newline bytes ≡ front ++ last ∷ []
  longer : slice_split is_newline (bytes ++ more) ≡ front ++ next ∷ tail

cut_within : (x : ℕ) (xs more : List ℕ) (front : List (List ℕ)) (last next : List ℕ) (tail : List (List ℕ)) → is_newline x ≡ false → slice_split is_newline xs ≡ front ++ last ∷ []
    → slice_split is_newline (xs ++ more) ≡ front ++ next ∷ tail → Cut (x ∷ xs) more
cut_within x xs more [] last next tail within parts longer = record {
  front = [];
  last = x ∷ last;
  next = x ∷ next;
  tail = tail;
  parts = slice_split-cons_no is_newline x xs within ∙ ap (onto_first x) parts;
  longer = slice_split-cons_no is_newline x (xs ++ more) within ∙ ap (onto_first x) longer;
}
cut_within x xs more (part ∷ front) last next tail within parts longer = record {
  front = (x ∷ part) ∷ front;
  last = last;
  next = next;
  tail = tail;
  parts = slice_split-cons_no is_newline x xs within ∙ ap (onto_first x) parts;
  longer = slice_split-cons_no is_newline x (xs ++ more) within ∙ ap (onto_first x) longer;
}

cut_at : (b : Bool) (x : ℕ) (xs more : List ℕ) → is_newline x ≡ b → Cut xs more → Cut (x ∷ xs) more
cut_at true x xs more ends c = record {
  front = [] ∷ c.front;
  last = c.last;
  next = c.next;
  tail = c.tail;
  parts = slice_split-cons_yes is_newline x xs ends ∙ ap (λ (z : List (List ℕ)). [] ∷ z) c.parts;
  longer = slice_split-cons_yes is_newline x (xs ++ more) ends ∙ ap (λ (z : List (List ℕ)). [] ∷ z) c.longer;
}
cut_at false x xs more within c = cut_within x xs more c.front c.last c.next c.tail within c.parts c.longer

cut : (bytes more : List ℕ) → Cut bytes more
cut [] more =
    let p = some_part (slice_split is_newline more) _ (length-slice_split is_newline more) in
    record { front = []; last = []; next = p.0; tail = p.1; parts = refl; longer = p.2 }
cut (x ∷ xs) more = cut_at (is_newline x) x xs more refl (cut xs more)

-- the parts before others are whole lines
whole_lines : (front : List (List ℕ)) (next : List ℕ) (tail : List (List ℕ)) → lines_in (front ++ next ∷ tail) ≡ map whole_line front ++ lines_in (next ∷ tail)
whole_lines (text ∷ other ∷ front) next tail = ap (λ (z : Lines). whole_line text ∷ z) (whole_lines (other ∷ front) next tail)
whole_lines _ next tail = refl

-- nothing, or what is no line
abbrev IsOpen : Lines → Type 0
IsOpen [] = Unit {0}
IsOpen (Ok text ∷ rest) = ⊥
IsOpen (Err why ∷ rest) = Unit {0}

open_is : (text : List ℕ) → IsOpen (open_line text)
open_is text = grind arith

-- the events in lines that come after others
abbrev events_in : {H L E : Type 0} → InputFormat H L E → H → List E → Lines → List E
events_in f h log rest = with_room (f.is_full h) log (steps f.event (map (f.line h) (texts rest)))

-- where the line after these events is a line, the events are those of other lines, in which the same line comes after
-- them
abbrev IsSame : {E : Type 0} → List E → List E → Lines → List ℕ → Type 0
IsSame events others lines text = (others ≡ events) × (slice_get lines (length events) ≡ Some (Ok text))

same_after : {H L E : Type 0} (f : InputFormat H L E) (h : H) (log : List E) (r : Result L LineCause) (first text : List ℕ) (lines more : Lines)
    → ((log : List E) → slice_get lines (length (events_in f h log lines)) ≡ Some (Ok text) → IsSame (events_in f h log lines) (events_in f h log more) more text)
    → slice_get (Ok first ∷ lines) (length (with_room (f.is_full h) log (steps f.event (r ∷ map (f.line h) (texts lines))))) ≡ Some (Ok text)
    → IsSame (with_room (f.is_full h) log (steps f.event (r ∷ map (f.line h) (texts lines)))) (with_room (f.is_full h) log (steps f.event (r ∷ map (f.line h) (texts more)))) (Ok first ∷ more) text
same_after f h log r first text lines more k l = grind arith

same_events : {H L E : Type 0} (f : InputFormat H L E) (h : H) (w t u : Lines) (text : List ℕ) → IsOpen t → (log : List E) → slice_get (w ++ t) (length (events_in f h log (w ++ t))) ≡ Some (Ok text)
    → IsSame (events_in f h log (w ++ t)) (events_in f h log (w ++ u)) (w ++ u) text
same_events f h [] (Ok first ∷ t) u text is log at = absurd is
same_events f h (Ok first ∷ w) t u text is log at = same_after f h log (f.line h first) first text (w ++ t) (w ++ u) (same_events f h w t u text is) at
same_events f h _ _ u text is log at = cc

-- the input after a header that has no more lines before these
abbrev Goes : {H L E : Type 0} → InputFormat H L E → Result (WholeHeaderOf H) Stop → Result (WholeHeaderOf H) Stop → Type 0
Goes f this other = (input_by f this).stop ≡ AtEnd → input_by f other ≡ input_by f this

step_same : {H L E : Type 0} (f : InputFormat H L E) (r : Result H LineCause) (n : ℕ) (w t u : Lines) → IsOpen t → ((next : H) → Goes f (header_in f (n + 1) next (w ++ t)) (header_in f (n + 1) next (w ++ u)))
    → Goes f (header_step f.is_whole n (w ++ t) (λ next. header_in f (n + 1) next (w ++ t)) r) (header_step f.is_whole n (w ++ u) (λ next. header_in f (n + 1) next (w ++ u)) r)
step_same f r n w t u h k = search (rules, same_events)

header_same : {H L E : Type 0} (f : InputFormat H L E) (n : ℕ) (h : H) (w t u : Lines) → IsOpen t → Goes f (header_in f n h (w ++ t)) (header_in f n h (w ++ u))
header_same f n h [] [] u is = λ e. let never : Refused n NoLine ≡ AtEnd = e in cc
header_same f n h [] (Ok first ∷ t) u is = absurd is
header_same f n h [] (Err why ∷ t) u is = λ e. let never : Refused n why ≡ AtEnd = e in cc
header_same f n h (Err why ∷ w) t u is = λ e. refl
header_same f n h (Ok text ∷ w) t u is = step_same f (f.header_line h text) n w t u is (λ next. header_same f (n + 1) next w t u is)

-- whatever is read so
pub nothing_after : {H L E : Type 0} (f : InputFormat H L E) (bytes more : List ℕ) → (input_read f bytes).stop ≡ AtEnd → input_read f (bytes ++ more) ≡ input_read f bytes
nothing_after f bytes more e =
    let c = cut bytes more in
    let w : Lines = map whole_line c.front in
    let t : Lines = open_line c.last in
    let u : Lines = lines_in (c.next ∷ c.tail) in
    let this : lines_of bytes ≡ w ++ t = ap lines_in c.parts ∙ whole_lines c.front c.last [] in
    let other : lines_of (bytes ++ more) ≡ w ++ u = ap lines_in c.longer ∙ whole_lines c.front c.next c.tail in
    let stops : (input_by f (header_in f 1 f.start (w ++ t))).stop ≡ AtEnd = search rules in
    ap (λ (z : Lines). input_by f (header_in f 1 f.start z)) other
    ∙ header_same f 1 f.start w t u (open_is c.last) stops
    ∙ sym (ap (λ (z : Lines). input_by f (header_in f 1 f.start z)) this)

pub after_end : (kind : HeaderKind) (bytes more : List ℕ) → (input_of kind bytes).stop ≡ AtEnd → input_of kind (bytes ++ more) ≡ input_of kind bytes
after_end kind = nothing_after (schedule_format kind)
