-- A run that converts a pair file: what was read of it and what was written.
use Rattle.pair_convert.proofs.Common.{AppendedPart, AtEnd, Consumes, ConvertWrite, ConvertedAs, ConvertsReadLines, CountsFaults, Ended, Err, FindsTaken, HasNoNewline, Heading, IfSome, IfSome_then, InputCause, IsLine, IsPrefix, LineCause, LineTaken, NoLine, None, Ok, Option, Outside, PairRead, RanConvert, Result, SaysTheSame, ScheduleLine, Sent, Some, Writes, Wrote, WroteAll, append-nil, by_line, common_steps, converted, cut_part, ended_at_stop, event_taken, first_line, grew_written, halts_after, input_cause, input_of, left_to_take, length-append, length_of, line_of_end, line_taken, lines_of, lines_whole, most_held, pair_line, piece_part, prepend_known, profile_of, read_none, refused_at, refused_line, rose_since, said_after, sent_flushed, sent_none, sent_piece, taken_by, text_part, took_line, took_none}
use Rattle.fsoe_base.specs.declared.lengths.Lengths.{Lengths}
use Rattle.param_load.specs.declared.profile.Profiles.{Profiles}
use Rattle.std.proofs.Common.{◌≡◌, ℕ, ◌+◌, ◌*◌, ◌≤◌, ◌<◌, Bool, true, false, List, [], ◌∷◌, ◌++◌, length, refl, ap, ◌∙◌, sym, subst, append_assoc, inl, inr, arith, rules}
use Rattle.fsoe_io.specs.Faults.{Rose}
use Rattle.fsoe_io.proofs.Taken.{consumes_then}
use Rattle.fsoe_io.specs.Output.{OutputView, Loses, Passes}
use Rattle.fsoe_io.specs.Sink.{Grew}
use Rattle.fsoe_io.specs.declared.status.Status.TheVariants as status
use Rattle.schedule_file.specs.declared.header_kind.HeaderKind.TheVariants as kind
use Rattle.file_run.specs.Halt.{Blames, Goes, Stalls}
use Rattle.file_run.specs.Stop.{halted_by, last_of}
use Rattle.file_run.specs.WholeLines.{TookLines}
use Rattle.file_run.specs.declared.halt.Halt.{Halt}
use Rattle.file_run.specs.declared.halt.Halt.TheVariants as halt
use Rattle.file_run.proofs.Unread.{nothing_held}
use Rattle.pair_convert.proofs.Conversion.Converted.{Whole, after_part, converted_whole, end_whole, refused_whole, told, told_by, told_whole, two_parts}
use Rattle.pair_convert.proofs.Conversion.SameWorld.{says_the_same}

-- of these bytes, which were taken of the input, this was written so far, and whatever comes after them gives the rest
pub record Tells (left0 left : Option (List ℕ)) (text : List ℕ) (r : PairRead) (number : ℕ) : Type 0 where
  pub taken : List ℕ
  pub goes : Consumes left0 left taken
  pub says : (more : List ℕ) → converted_whole (taken ++ more) ≡ after_part text (told number r (lines_of more))

-- an input has at most so many lines
abbrev pub most_lines : ℕ
most_lines = 201032

-- what holds before each line
pub record Converting (left0 left w0 w : Option (List ℕ)) (waiting : OutputView) (r : PairRead) (lines : ℕ) : Type 0 where
  pub text : List ℕ
  pub sent : Sent w0 w waiting text
  pub took : TookLines lines left0 left
  pub tells : Tells left0 left text r (lines + 1)
  pub size : waiting.sent + length waiting.bytes + 1024 * left_to_take r ≤ 1024 * most_lines
  pub lined : lines + left_to_take r ≤ most_lines

none_taken : (left : Option (List ℕ)) (held : List ℕ) → held ≡ [] → Consumes left (prepend_known held left) []
none_taken left held h = grind arith

pub converting_start : (left w : Option (List ℕ)) (held : List ℕ) (waiting : OutputView) (r : PairRead) (lines : ℕ) → held ≡ [] → lines ≡ 0 → waiting.bytes ≡ [] → waiting.sent ≡ 0 → r ≡ read_none
    → Converting left (prepend_known held left) w w waiting r lines
converting_start left w held waiting r lines e z none sent is =
    let left_first : left_to_take r ≡ left_to_take read_none = ap left_to_take is in
    let waits : length waiting.bytes ≡ 0 = ap (length {A = ℕ}) none in
    record {
      text = [];
      sent = sent_none w waiting none sent;
      took = subst (λ (n : ℕ). TookLines n left (prepend_known held left)) (sym z) (subst (TookLines 0 left) (sym (nothing_held held left e)) (took_none left));
      tells = record {
        taken = [];
        goes = none_taken left held e;
        says = λ more. sym (told_whole more) ∙ ap (λ (n : ℕ). told (n + 1) read_none (lines_of more)) (sym z) ∙ ap (λ (r : PairRead). told (lines + 1) r (lines_of more)) (sym is);
      };
      size = omega (arith, left_first, waits, sent);
      lined = omega (arith, left_first, z);
    }

-- what waited was sent
pub converting_sent : (left0 left w0 w1 w2 : Option (List ℕ)) (waiting now : OutputView) (r : PairRead) (lines : ℕ) → Converting left0 left w0 w1 waiting r lines → Passes waiting now w1 w2 [] now.bytes
    → now.sent + length now.bytes ≡ waiting.sent + length waiting.bytes → Converting left0 left w0 w2 now r lines
converting_sent left0 left w0 w1 w2 waiting now r lines k p same = record {
  text = k.text;
  sent = sent_flushed w0 w1 w2 waiting now k.text k.sent p;
  took = k.took;
  tells = k.tells;
  size = omega (arith, same, k.size);
  lined = k.lined;
}

-- a line was taken
told_next : (number : ℕ) (r next : PairRead) (line text ys zs : List ℕ) (ends : Bool) → IsLine line → ys ≡ (line ++ 10 ∷ []) ++ zs → line_taken number r line ≡ Ok (record { next = next; text = text; ends = ends })
    → told number r (lines_of ys) ≡ told_by number (Ok (record { next = next; text = text; ends = ends })) (λ next. told (number + 1) next (lines_of zs))
told_next number r next line text ys zs ends h k l = grind (arith, common_steps, lines_whole)

tells_next : (left0 b c : Option (List ℕ)) (before text line : List ℕ) (r next : PairRead) (number : ℕ) → Tells left0 b before r number → IsLine line → Consumes b c (line ++ 10 ∷ []) → line_taken number r line ≡ Ok (record { next = next; text = text; ends = false })
    → Tells left0 c (before ++ text) next (number + 1)
tells_next left0 b c before text line r next number k is goes taken = record {
  taken = k.taken ++ (line ++ 10 ∷ []);
  goes = consumes_then left0 b c k.taken (line ++ 10 ∷ []) k.goes goes;
  says = λ more.
      ap converted_whole (append_assoc k.taken (line ++ 10 ∷ []) more) ∙ k.says ((line ++ 10 ∷ []) ++ more)
      ∙ ap (after_part before) (told_next number r next line text ((line ++ 10 ∷ []) ++ more) more false is refl taken) ∙ two_parts before text (told (number + 1) next (lines_of more));
}

pub converting_line : (left0 b c w0 w1 w2 : Option (List ℕ)) (waiting now : OutputView) (r next : PairRead) (lines after : ℕ) (text : List ℕ) → Converting left0 b w0 w1 waiting r lines → FindsTaken (lines + 1) r (Ok false) next text b c → after ≡ lines + 1
    → left_to_take next < left_to_take r → Passes waiting now w1 w2 text now.bytes → now.sent + length now.bytes ≡ waiting.sent + length waiting.bytes + length text → length text ≤ 1024 → Converting left0 c w0 w2 now next after
converting_line left0 b c w0 w1 w2 waiting now r next lines after text k finds step fewer p size most = record {
  text = k.text ++ text;
  sent = sent_piece w0 w1 w2 waiting now k.text text k.sent p;
  took = took_line lines after left0 b c finds.0 k.took finds.1 finds.2 step;
  tells = subst (λ (n : ℕ). Tells left0 c (k.text ++ text) next (n + 1)) (sym step) (tells_next left0 b c k.text text finds.0 r next (lines + 1) k.tells finds.1 finds.2 finds.3);
  size = omega (arith, size, most, fewer, k.size);
  lined = omega (arith, step, fewer, k.lined);
}

-- a text is a first part of what the input is converted to
abbrev Begins : Option (List ℕ) → List ℕ → Type 0
Begins told text = IfSome told (λ input. IsPrefix text (converted input))

begins : (left0 left : Option (List ℕ)) (text : List ℕ) (r : PairRead) (number : ℕ) → Tells left0 left text r number → Begins left0 text
begins left0 left text r number h = grind arith

prefix_then : (part text whole : List ℕ) → IsPrefix part text → IsPrefix text whole → IsPrefix part whole
prefix_then part text whole p q = (p.0 ++ q.0, q.1 ∙ ap (λ (z : List ℕ). z ++ q.0) p.1 ∙ append_assoc part p.0 q.0)

-- a write failed
ends_write : (o : Outside) (ended : Ended) (whole : List ℕ) → ended.status ≡ status.Write → AppendedPart o.sink.before o.sink.after ended.place whole → Begins o.source.before whole → Rose o.sink.faults_before o.sink.faults_after
    → ConvertedAs ended.status ended o
ends_write o ended whole e p begins rose =
    let failed : ConvertWrite ended.place o = record {
      appended = (p.part, p.grew, p.counts);
      wrote = IfSome_then o.source.before begins (λ input begun. (p.part, p.grew, (p.counts, prefix_then p.part whole (converted input) p.begins begun, omega (arith, p.less, ap (length {A = ℕ}) begun.1, length-append whole begun.0))));
      cause = rose;
    } in
    rw e failed

-- a run ends as it is to, or a write failed at the end
ends_written : (o : Outside) (between : Option (List ℕ)) (faults : ℕ) (waiting : OutputView) (text last : List ℕ) (ended result : Ended) → Sent o.sink.before between waiting text
    → Writes waiting.sent (waiting.bytes ++ last) ended result (record { before = between; after = o.sink.after; faults_before = faults; faults_after = o.sink.faults_after })
    → faults ≡ o.sink.faults_before → Begins o.source.before (text ++ last) → (Grew o.sink.before o.sink.after (text ++ last) → ConvertedAs ended.status ended o) → ConvertedAs result.status result o
ends_written o between faults waiting text last ended result s writes later begins ends =
    elim writes [
      | inl whole ↦ subst (λ (x : Ended). ConvertedAs x.status x o) (sym whole.0) (ends (grew_written o.sink.before between o.sink.after waiting text last s whole.1))
      | inr cut ↦
          ends_write o result (text ++ last) cut.status_is
          (cut_part o.sink.before between waiting text last result (record { before = between; after = o.sink.after; faults_before = faults; faults_after = o.sink.faults_after }) s cut) begins
          (rose_since o.sink.faults_before faults o.sink.faults_after later cut.cause)
    ]

-- a write failed before a line
pub ends_unsent : (o : Outside) (left w1 : Option (List ℕ)) (waiting now : OutputView) (r : PairRead) (lines : ℕ) (rest : List ℕ) (ended : Ended) → Converting o.source.before left o.sink.before w1 waiting r lines → Loses waiting now w1 o.sink.after [] rest
    → ended.status ≡ status.Write → ended.place ≡ now.sent → Rose o.sink.faults_before o.sink.faults_after → ConvertedAs ended.status ended o
ends_unsent o left w1 waiting now r lines rest ended h k l m n = search (rules, ends_write, text_part, begins)

-- a line could not be written
pub ends_lost : (o : Outside) (b c w1 : Option (List ℕ)) (waiting now : OutputView) (r next : PairRead) (lines : ℕ) (text rest : List ℕ) (ended : Ended) → Converting o.source.before b o.sink.before w1 waiting r lines → FindsTaken (lines + 1) r (Ok false) next text b c
    → Loses waiting now w1 o.sink.after text rest → ended.status ≡ status.Write → ended.place ≡ now.sent → Rose o.sink.faults_before o.sink.faults_after → ConvertedAs ended.status ended o
ends_lost o b c w1 waiting now r next lines text rest ended k finds p e place rose =
    ends_write o ended (k.text ++ text) e (piece_part o.sink.before w1 o.sink.after waiting now k.text text rest ended.place k.sent p place)
    (begins o.source.before c (k.text ++ text) next (lines + 1 + 1) (tells_next o.source.before b c k.text text finds.0 r next (lines + 1) k.tells finds.1 finds.2 finds.3)) rose

-- all was converted so
abbrev IsAll : Option (List ℕ) → Whole → Type 0
IsAll told whole = IfSome told (λ input. converted_whole input ≡ whole)

all_begins : (told : Option (List ℕ)) (whole : Whole) → IsAll told whole → Begins told whole.text
all_begins told whole all = IfSome_then told all (λ input e. ([], ap (λ (w : Whole). w.text) e ∙ sym (append-nil whole.text)))

all_wrote : (o : Outside) (whole : Whole) → IsAll o.source.before whole → Grew o.sink.before o.sink.after whole.text → WroteAll whole.ended o
all_wrote o whole all grew = IfSome_then o.source.before all (λ input e. (whole.text, grew, (sym (ap (λ (w : Whole). w.text) e), sym (ap (λ (w : Whole). w.ended) e))))

-- so many lines were taken
all_lines : (told : Option (List ℕ)) (number : ℕ) (text : List ℕ) → IsAll told (end_whole number text) → IfSome told (λ input. number ≡ line_of_end (input_of kind.Pair input))
all_lines told number text h = grind arith

all_same : (o : Outside) (number : ℕ) (text : List ℕ) → IsAll o.source.before (end_whole number text) → Grew o.sink.before o.sink.after text → Wrote o SaysTheSame
all_same o number text h k = search (rules, says_the_same)

-- the last line came
all_ended : (left0 b c : Option (List ℕ)) (before text line : List ℕ) (r next : PairRead) (number : ℕ) → Tells left0 b before r number → IsLine line → Consumes b c (line ++ 10 ∷ []) → line_taken number r line ≡ Ok (record { next = next; text = text; ends = true })
    → IsAll left0 (end_whole number (before ++ text))
all_ended None b c before text line r next number tells is goes taken = tt
all_ended (Some xs) None c before text line r next number tells is goes taken = absurd tells.goes
all_ended (Some xs) (Some ys) None before text line r next number tells is goes taken = absurd goes
all_ended (Some xs) (Some ys) (Some zs) before text line r next number tells is goes taken =
    ap converted_whole tells.goes ∙ tells.says ys ∙ ap (after_part before) (told_next number r next line text ys zs true is goes taken)

pub ends_at_end : (o : Outside) (b w1 : Option (List ℕ)) (held : List ℕ) (faults : ℕ) (waiting : OutputView) (r next : PairRead) (lines : ℕ) (text : List ℕ) (result : Ended) → Converting o.source.before b o.sink.before w1 waiting r lines → FindsTaken (lines + 1) r (Ok true) next text b (prepend_known held o.source.after) → length held ≤ most_held
    → Writes waiting.sent (waiting.bytes ++ text) (ended_at_stop AtEnd) result (record { before = w1; after = o.sink.after; faults_before = faults; faults_after = o.sink.faults_after }) → faults ≡ o.sink.faults_before → ConvertedAs result.status result o
ends_at_end o b w1 held faults waiting r next lines text result k finds most writes later =
    let c = prepend_known held o.source.after in
    let whole = end_whole (lines + 1) (k.text ++ text) in
    let all = all_ended o.source.before b c k.text text finds.0 r next (lines + 1) k.tells finds.1 finds.2 finds.3 in
    ends_written o w1 faults waiting k.text text (ended_at_stop AtEnd) result k.sent writes later (all_begins o.source.before whole all)
    (λ grew.
    record {
      place_is = refl;
      read = (
        lines + 1,
        all_lines o.source.before (lines + 1) (k.text ++ text) all,
        record { held = held; most = most; took = took_line lines (lines + 1) o.source.before b c finds.0 k.took finds.1 finds.2 refl },
      );
      wrote = all_wrote o whole all grew;
      same = all_same o (lines + 1) (k.text ++ text) all grew;
    })

all_refused : (left0 b : Option (List ℕ)) (before : List ℕ) (r : PairRead) (number : ℕ) (why : InputCause) → Tells left0 b before r number → IfSome b (λ input. taken_by number r (first_line (lines_of input)) ≡ Err why)
    → IsAll left0 (after_part before (refused_whole number why))
all_refused left0 b before r number why h k = grind arith

-- a read failed: the lines that were taken are converted so
read_told : (told left : Option (List ℕ)) (after : Option (List ℕ)) (held text : List ℕ) (r : PairRead) (lines count : ℕ) → Tells told left text r (lines + 1) → count ≡ lines → Consumes left (prepend_known held after) [] → HasNoNewline held
    → IfSome told (λ input. ConvertsReadLines count input after text)
read_told None left after held text r lines count k same goes none = tt
read_told (Some xs) left after held text r lines count k same goes none =
    let whole : converted_whole k.taken ≡ after_part text (refused_whole (count + 1) NoLine) =
    ap converted_whole (sym (append-nil k.taken)) ∙ k.says [] ∙ ap (λ (n : ℕ). after_part text (refused_whole (n + 1) NoLine)) (sym same)
    in
    record {
      taken = k.taken;
      held = held;
      goes = subst (Consumes (Some xs) (prepend_known held after)) (append-nil k.taken) (consumes_then (Some xs) left (prepend_known held after) k.taken [] k.goes goes);
      open_line = none;
      writes = ap (λ (w : Whole). w.text) whole;
      ends = ap (λ (w : Whole). w.ended) whole;
      begins = begins (Some xs) left text r (lines + 1) k;
    }

-- the input goes no further
pub ends_halted : (o : Outside) (b w1 : Option (List ℕ)) (held : List ℕ) (source faults : ℕ) (waiting : OutputView) (r next : PairRead) (lines after : ℕ) (text : List ℕ) (why : Halt) (result : Ended) → Converting o.source.before b o.sink.before w1 waiting r lines
    → FindsTaken (lines + 1) r (Err why) next text b (prepend_known held o.source.after) → Goes {T = Bool} (Err why) lines after b (prepend_known held o.source.after) → Stalls {T = Bool} (Err why) held → length held ≤ most_held → Blames {T = Bool} (Err why) source o.source.faults_after
    → source ≡ o.source.faults_before → Writes waiting.sent (waiting.bytes ++ last_of why) (halted_by why) result (record { before = w1; after = o.sink.after; faults_before = faults; faults_after = o.sink.faults_after }) → faults ≡ o.sink.faults_before
    → ConvertedAs result.status result o
ends_halted o b w1 held source faults waiting r next lines after text (halt.Read count) result k finds goes stalls most blames earlier writes later =
    let begun = begins o.source.before b k.text r (lines + 1) k.tells in
    ends_written o w1 faults waiting k.text [] (halted_by (halt.Read count)) result k.sent writes later (subst (Begins o.source.before) (sym (append-nil k.text)) begun)
    (λ grew.
    record {
      read = halts_after o.source.before b o.source.after held lines after (halt.Read count) k.took goes stalls most;
      wrote = IfSome_then o.source.before (read_told o.source.before b o.source.after held k.text r lines count k.tells goes.0 goes.1 stalls)
          (λ input is. (k.text, subst (Grew o.sink.before o.sink.after) (append-nil k.text) grew, is));
      cause = rose_since o.source.faults_before source o.source.faults_after earlier blames;
    })
ends_halted o b w1 held source faults waiting r next lines after text halt.Memory result k finds goes stalls most blames earlier writes later = absurd finds
ends_halted o b w1 held source faults waiting r next lines after text (halt.Refused number why) result k finds goes stalls most blames earlier writes later =
    let whole = after_part k.text (refused_whole number (input_cause why)) in
    let all = subst (λ (n : ℕ). IsAll o.source.before (after_part k.text (refused_whole n (input_cause why)))) (sym goes.0) (all_refused o.source.before b k.text r (lines + 1) (input_cause why) k.tells finds) in
    let halts = halts_after o.source.before b o.source.after held lines after (halt.Refused number why) k.took goes stalls most in
    ends_written o w1 faults waiting k.text (refused_line number (input_cause why)) (refused_at number) result k.sent writes later
    (all_begins o.source.before whole all) (λ grew. record { number = halts.0; read = halts.1; wrote = all_wrote o whole all grew })

pub ran_by : (ended : Ended) (o : Outside) → ConvertedAs ended.status ended o → CountsFaults ended.status o → RanConvert ended o
ran_by ended o h k = grind arith

pub next_refused : (number : ℕ) (r : PairRead) (old new : Option (List ℕ)) (line : List ℕ) (why : InputCause) → IsLine line → Consumes old new (line ++ 10 ∷ []) → line_taken number r line ≡ Err why
    → IfSome old (λ input. taken_by number r (first_line (lines_of input)) ≡ Err why)
next_refused number r old new line why is goes e = by_line old new line (λ lines. taken_by number r (first_line lines) ≡ Err why) is goes (λ rest. e)

-- what a line says by the lengths and the profiles of a header
pub said_as : (lengths : Lengths) (profiles : Profiles) (h : Heading) (text : List ℕ) → lengths.master ≡ h.lengths.master → lengths.slave ≡ h.lengths.slave → profiles.master ≡ h.master.profile → profiles.slave ≡ h.slave.profile
    → said_after kind.Pair h text ≡ pair_line (length_of lengths) (profile_of profiles) text
said_as lengths profiles h text k l m n = search rules

-- so the line is taken
pub taken_as : (lengths : Lengths) (profiles : Profiles) (h : Heading) (events : ℕ) (r : PairRead) (line : List ℕ) (says : Result ScheduleLine LineCause) (taken : Result LineTaken InputCause) → record { heading = h; events = events } ≡ r
    → lengths.master ≡ h.lengths.master → lengths.slave ≡ h.lengths.slave → profiles.master ≡ h.master.profile → profiles.slave ≡ h.slave.profile → pair_line (length_of lengths) (profile_of profiles) line ≡ says
    → event_taken (record { heading = h; events = events }) line says ≡ taken → event_taken r line (said_after kind.Pair r.heading line) ≡ taken
taken_as lengths profiles h events r line says taken view k l m n is e =
    subst (λ (r : PairRead). event_taken r line (said_after kind.Pair r.heading line) ≡ taken) view (ap (event_taken (record { heading = h; events = events }) line) (said_as lengths profiles h line k l m n ∙ is) ∙ e)
