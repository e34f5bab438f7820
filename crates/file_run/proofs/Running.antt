-- A run over the events of an input, whatever they do: what was read of it and what was written.
use Rattle.file_run.proofs.Common.{Always, AtEnd, Begins, BeginsReport, Blames, CameToEnd, Consumes, Ended, EndsAs, EndsWhole, Err, FindsEvent, Grew, Halt, Halts, HaltsHeader, HasNoNewline, HasRead, IfSome, IfSome_then, InputCause, InputFormat, InputOf, IsFullness, IsHeaderCutOff, StandsAsBefore, LeavesUnbegun, MayWant, MemoryUse, NoLine, None, Option, OutputView, Outside, Passes, RanOver, Refusal, Refused, Reporting, ReportsReadLines, ReportsSoFar, Result, Running, Saying, SaysSo, Seen, Some, Stalls, Standing, Status, Stop, TakesEvent, TakesMemory, Writes, append-nil, halted_by, header_read, input_by, input_cause, input_headless, input_on, input_read, input_stopped, last_of, length-append, length_push, lines_of, more_on, most_parts, most_waiting, prepend_known, refused_at, refused_line, what_event}
use Rattle.std.proofs.Common.{◌≡◌, ℕ, ◌+◌, ◌*◌, ◌≤◌, Bool, List, [], ◌∷◌, ◌++◌, length, refl, arith, ap, ◌∙◌, sym, subst, rules}
use Rattle.file_run.specs.declared.halt.Halt.TheVariants as halt
use Rattle.file_run.proofs.Counted.{counted_halted, ran_by}
use Rattle.file_run.proofs.Lines.{by_line}
use Rattle.file_run.proofs.Seen.{has_event, seen_none, seen_more, seen_same, input_refused, input_ended}
use Rattle.file_run.proofs.Sending.{begins_whole, ends_from_none, sent_none, sent_piece, sent_flushed}
use Rattle.file_run.proofs.Taken.{took_line}

-- a machine's texts are first parts of reports
abbrev pub Reports : {H L E : Type 0} → Reporting H L E → Standing H E → Type 0
Reports {H} {L} {E} r stands = (h : H) (log : List E) (text : List ℕ) → stands h log text → ReportsSoFar r h log text

-- what is found by one way to read inputs is found by the same
pub finds_as : {H L E : Type 0} (asked format : InputFormat H L E) (says : Saying L) (full : Bool) (result : Result (Unit {0}) Halt) (line : L) (old new : Option (List ℕ)) → asked ≡ format → FindsEvent asked.event says full (what_event asked.event result line) old new
    → FindsEvent format.event says full (what_event format.event result line) old new
finds_as {H} {L} {E} asked format says full result line old new e finds = subst (λ (f : InputFormat H L E). FindsEvent f.event says full (what_event f.event result line) old new) e finds

-- a line was read that has this event, or none
pub read_as : {H L E : Type 0} {r : Reporting H L E} {stands : Standing H E} {says : Saying L} {o : Outside} {held : List ℕ} {waiting : OutputView} {events lines : ℕ} (asked : InputFormat H L E) (line : L) (event : Option E)
    → HasRead r stands says o held waiting events lines (r.format.event line) → asked ≡ r.format → asked.event line ≡ event → HasRead r stands says o held waiting events lines event
read_as {H} {L} {E} {r} {stands} {says} {o} {held} {waiting} {events} {lines} asked line event read same is =
    subst (HasRead r stands says o held waiting events lines) (ap (λ (f : InputFormat H L E). f.event line) (sym same) ∙ is) read

-- after a header nothing was sent
pub running_start : {H L E : Type 0} (r : Reporting H L E) (stands : Standing H E) (says : Saying L) (left0 left w : Option (List ℕ)) (waiting : OutputView) (lines : ℕ) → Begins r stands says lines left0 left → waiting.bytes ≡ [] → waiting.sent ≡ 0
    → Running r stands says left0 left w w waiting 0 lines
running_start r stands says left0 left w waiting lines b none sent = record {
  heading = b.heading;
  header = lines;
  log = [];
  text = [];
  stood = b.stood;
  same = b.same;
  seen = seen_none r.format b.heading lines left0 left b.whole;
  took = b.took;
  sent = sent_none w waiting none sent;
  most = omega (arith, ap (length {A = ℕ}) none);
  size = omega (arith, sent, ap (length {A = ℕ}) none);
  count = refl;
  few = omega arith;
  lined = omega arith;
  headed = b.most;
}

-- what waited was sent
pub running_sent : {H L E : Type 0} (r : Reporting H L E) (stands : Standing H E) (says : Saying L) (left0 left w0 w1 w2 : Option (List ℕ)) (waiting now : OutputView) (events lines : ℕ) → Running r stands says left0 left w0 w1 waiting events lines
    → Passes waiting now w1 w2 [] now.bytes → now.sent + length now.bytes ≡ waiting.sent + length waiting.bytes → Running r stands says left0 left w0 w2 now events lines
running_sent r stands says left0 left w0 w1 w2 waiting now events lines k p same = record {
  heading = k.heading;
  header = k.header;
  log = k.log;
  text = k.text;
  stood = k.stood;
  same = k.same;
  seen = k.seen;
  took = k.took;
  sent = sent_flushed w0 w1 w2 waiting now k.text k.sent p;
  most = omega (arith, k.most, ap (length {A = ℕ}) p.whole, length-append waiting.bytes [], length-append p.part now.bytes);
  size = omega (arith, same, k.size);
  count = k.count;
  few = k.few;
  lined = k.lined;
  headed = k.headed;
}

-- the line of an event was read
pub event_seen : {H L E : Type 0} {r : Reporting H L E} {stands : Standing H E} {says : Saying L} {o : Outside} {held : List ℕ} {waiting : OutputView} {events lines : ℕ} {event : E} (k : HasRead r stands says o held waiting events lines (Some event))
    → Seen r.format k.running.heading k.running.header o.source.before (prepend_known held o.source.after) (k.running.log ++ event ∷ [])
event_seen {H} {L} {E} {r} {stands} {says} {o} {held} {waiting} {events} {lines} {event} k =
    let run = k.running in
    let said = has_event r.format.event says k.full k.finds.0 event k.finds.3 in
    seen_more r.format run.heading run.header o.source.before k.left (prepend_known held o.source.after) run.log said.line event k.finds.0 run.seen k.finds.1 k.finds.2
    (sym (k.fullness run.heading run.log run.text run.count run.stood) ∙ said.room) (sym (run.same k.finds.0) ∙ said.says) said.is

-- the machine did it, and all its text was put
pub running_event : {H L E : Type 0} (r : Reporting H L E) (old mid new : Standing H E) (says : Saying L) (o : Outside) (held : List ℕ) (w : Option (List ℕ)) (waiting now : OutputView) (events lines : ℕ) (event : E) (text : List ℕ) (parts : ℕ)
    → HasRead r old says o held waiting events lines (Some event) → TakesEvent old mid event (events + 1) text → StandsAsBefore mid new → Passes waiting now o.sink.after w text now.bytes
    → now.sent + length now.bytes ≤ waiting.sent + length waiting.bytes + 1024 + 1024 * parts → length now.bytes ≤ most_waiting → parts ≤ most_parts
    → Running r new says o.source.before (prepend_known held o.source.after) o.sink.before w now (events + 1) lines
running_event r old mid new says o held w waiting now events lines event text parts k on keeps p size holds most =
    let run = k.running in
    let below = k.few (has_event r.format.event says k.full k.finds.0 event k.finds.3).room in
    record {
      heading = run.heading;
      header = run.header;
      log = run.log ++ event ∷ [];
      text = run.text ++ text;
      stood = keeps run.heading (run.log ++ event ∷ []) (run.text ++ text) (on.takes run.heading run.log run.text (omega (arith, run.count)) run.stood);
      same = run.same;
      seen = event_seen k;
      took = took_line k.count lines o.source.before k.left (prepend_known held o.source.after) k.finds.0 run.took k.finds.1 k.finds.2 k.next;
      sent = sent_piece o.sink.before o.sink.after w waiting now run.text text run.sent p;
      most = holds;
      size = omega (arith, size, run.size, most);
      count = length_push run.log event ∙ ap (λ (n : ℕ). n + 1) run.count;
      few = omega (arith, below);
      lined = omega (arith, k.next, run.lined);
      headed = run.headed;
    }

-- an input of which these events were read
seen_input : {H L E : Type 0} (f : InputFormat H L E) (h : H) (n : ℕ) (log : List E) (xs ys : List ℕ) → Seen f h n (Some xs) (Some ys) log
    → (more : List E) × (stop : Stop) × (input_read f xs ≡ input_stopped h n (log ++ more) stop)
seen_input f h n log xs ys seen =
    (more_on f h log (lines_of ys), (input_on f h n log (lines_of ys)).stop, ap (input_read f) seen.goes ∙ seen.says ys)

-- what holds of each input whose events begin so holds of the one that is told
pub by_seen : {H L E : Type 0} (f : InputFormat H L E) (h : H) (n : ℕ) (log : List E) (left0 left : Option (List ℕ)) (P : InputOf H E → Type 0) → Seen f h n left0 left log
    → ((more : List E) (stop : Stop) → P (input_stopped h n (log ++ more) stop)) → IfSome left0 (λ input. P (input_read f input))
by_seen f h n log None left P seen holds = tt
by_seen f h n log (Some xs) None P seen holds = absurd seen.goes
by_seen f h n log (Some xs) (Some ys) P seen holds =
    let is = seen_input f h n log xs ys seen in
    subst P (sym is.2) (holds is.0 is.1)

-- its report begins with the text so far
pub begun : {H L E : Type 0} {r : Reporting H L E} {stands : Standing H E} {says : Saying L} {left0 left w0 w : Option (List ℕ)} {waiting : OutputView} {events lines : ℕ} (k : Running r stands says left0 left w0 w waiting events lines) → Reports r stands
    → IfSome left0 (λ input. BeginsReport r (input_read r.format input) k.text)
begun {H} {L} {E} {r} {stands} {says} {left0} {left} k reports =
    by_seen r.format k.heading k.header k.log left0 left (λ input. BeginsReport r input k.text) k.seen ((reports k.heading k.log k.text k.stood).begins k.header)

-- what holds of an input that stops after these events holds of the one that is told, where it stops so
pub stops_so : {H L E : Type 0} (f : InputFormat H L E) (h : H) (n : ℕ) (log : List E) (left0 left : Option (List ℕ)) (stop : Stop) (P : InputOf H E → Type 0) → Seen f h n left0 left log
    → IfSome left (λ rest. input_on f h n log (lines_of rest) ≡ input_stopped h n log stop) → P (input_stopped h n log stop) → IfSome left0 (λ input. P (input_read f input))
stops_so f h n log None left stop P seen stops holds = tt
stops_so f h n log (Some xs) None stop P seen stops holds = absurd seen.goes
stops_so f h n log (Some xs) (Some ys) stop P seen stops holds = subst P (sym (ap (input_read f) seen.goes ∙ seen.says ys ∙ stops)) holds

-- a run to the end ends so
pub as_whole : {H L E : Type 0} (r : Reporting H L E) (s : Status) (place : ℕ) (ended : Ended) (o : Outside) → EndsWhole r.judges s place → CameToEnd r ended o → EndsAs r s ended o
as_whole r s place ended o h k = grind arith

-- the last line was read
pub ended_next : {H L E : Type 0} {r : Reporting H L E} {stands : Standing H E} {says : Saying L} {o : Outside} {held : List ℕ} {waiting : OutputView} {events lines : ℕ} (k : HasRead r stands says o held waiting events lines None)
    → IfSome k.left (λ rest. input_on r.format k.running.heading k.running.header k.running.log (lines_of rest) ≡ input_stopped k.running.heading k.running.header k.running.log AtEnd)
ended_next {H} {L} {E} {r} {stands} {says} {o} {held} k =
    let run = k.running in
    by_line k.left (prepend_known held o.source.after) k.finds.0 (λ rest. input_on r.format run.heading run.header run.log rest ≡ input_stopped run.heading run.header run.log AtEnd) k.finds.1 k.finds.2
    (λ rest. input_ended r.format says k.full run.heading run.header run.log k.finds.0 rest run.same (k.fullness run.heading run.log run.text run.count run.stood) k.finds.3)

-- where a command takes memory, it may want some before anything is written
may_want : (when : MemoryUse) (nothing : Type 0) → TakesMemory when → nothing → MayWant when nothing
may_want when nothing h k = grind arith

pub always_wants : (when : MemoryUse) (nothing : Type 0) → when ≡ Always → MayWant when nothing
always_wants when nothing e = subst (λ (u : MemoryUse). MayWant u nothing) (sym e) tt

-- a text is the report of lines that were taken, without its last line
read_lines : {H L E : Type 0} (r : Reporting H L E) (lines : ℕ) (input taken held text : List ℕ) (left : Option (List ℕ)) (read : InputOf H E) → Consumes (Some input) (prepend_known held left) taken → HasNoNewline held → input_read r.format taken ≡ read
    → read.stop ≡ Refused (lines + 1) NoLine → r.reports read (refused_at (lines + 1)) (text ++ refused_line (lines + 1) NoLine) → BeginsReport r (input_read r.format input) text → ReportsReadLines r lines input left text
read_lines {H} {L} {E} r lines input taken held text left read goes none is stops writes begins = record {
  taken = taken;
  held = held;
  goes = goes;
  open_line = none;
  stops = ap (λ (i : InputOf H E). i.stop) is ∙ stops;
  writes = subst (λ (i : InputOf H E). r.reports i (refused_at (lines + 1)) (text ++ refused_line (lines + 1) NoLine)) (sym is) writes;
  begins = begins;
}

-- a read failed
pub reads_failed : {H L E : Type 0} (r : Reporting H L E) (says : Saying L) (full : Bool) (input left after : Option (List ℕ)) (held : List ℕ) (h : H) (n : ℕ) (log : List E) (text : List ℕ) → SaysSo r.format h says → full ≡ r.format.is_full h log
    → Seen r.format h n input left log → ReportsSoFar r h log text → Consumes left (prepend_known held after) [] → HasNoNewline held → IfSome input (λ input. ReportsReadLines r (n + length log) input after text)
reads_failed r says full None left after held h n log text says_so fullness seen so_far same none = tt
reads_failed r says full (Some xs) left after held h n log text says_so fullness seen so_far same none =
    let still = seen_same r.format h n (Some xs) left (prepend_known held after) log seen same in
    read_lines r (n + length log) xs still.taken held text after _ still.goes none
    (ap (input_read r.format) (sym (append-nil still.taken)) ∙ still.says [] ∙ input_refused r.format says full h n log [] NoLine says_so fullness refl) refl (so_far.refused n (n + length log + 1) NoLine)
    (by_seen r.format h n log (Some xs) left (λ input. BeginsReport r input text) seen (so_far.begins n))

-- what was read of an input says that its next line is refused
pub refused_after : {H L E : Type 0} (r : Reporting H L E) (stands : Standing H E) (says : Saying L) (full : Bool) (left0 b c w0 w : Option (List ℕ)) (waiting : OutputView) (events lines number : ℕ) (why : Refusal) (k : Running r stands says left0 b w0 w waiting events lines)
    → FindsEvent r.format.event says full (Err (halt.Refused number why)) b c → IsFullness r stands events full → number ≡ k.header + length k.log + 1
    → IfSome b (λ rest. input_on r.format k.heading k.header k.log (lines_of rest) ≡ input_stopped k.heading k.header k.log (Refused number (input_cause why)))
refused_after r stands says full left0 b c w0 w waiting events lines number why k h l m = search rules

-- the header goes no further, in which nothing was written
headless : {H L E : Type 0} (f : InputFormat H L E) (bytes : List ℕ) (stop : Stop) → header_read f bytes ≡ Err stop → input_read f bytes ≡ input_headless stop
headless f bytes stop e = ap (input_by f) e

-- each input has a report, and one without a whole header has a report of one line
pub record HasReports {H L E : Type 0} (r : Reporting H L E) : Type 0 where
  pub some : (bytes : List ℕ) → (report : List ℕ) × (ended : Ended) × r.reports (input_read r.format bytes) ended report
  pub headless : (number : ℕ) (why : InputCause) → r.reports (input_headless (Refused number why)) (refused_at number) (refused_line number why)

nothing_begins : {H L E : Type 0} (r : Reporting H L E) (told : Option (List ℕ)) → HasReports r → IfSome told (λ input. BeginsReport r (input_read r.format input) [])
nothing_begins r None has = tt
nothing_begins r (Some xs) has = let report = has.some xs in (report.0, report.1, report.2, (report.0, refl))

header_cut_off : {H L E : Type 0} (r : Reporting H L E) (told left : Option (List ℕ)) (held : List ℕ) (count : ℕ) → HasReports r → IsHeaderCutOff r.format count told (prepend_known held left) → HasNoNewline held
    → IfSome told (λ input. ReportsReadLines r count input left [])
header_cut_off r None left held count has cut none = tt
header_cut_off r (Some xs) left held count has cut none =
    read_lines r count xs cut.taken held [] left _ cut.goes none (headless r.format cut.taken (Refused (count + 1) NoLine) cut.says) refl (has.headless (count + 1) NoLine) (nothing_begins r (Some xs) has)

header_halted : {H L E : Type 0} (r : Reporting H L E) (o : Outside) (held : List ℕ) (why : Halt) (result : Ended) → HasReports r → HaltsHeader r.format (TakesMemory r.memory) why o.source.before (prepend_known held o.source.after)
    → Halts {T = Unit {0}} (Err why) o.source.before o.source.after → Stalls {T = Unit {0}} (Err why) held → Blames {T = Unit {0}} (Err why) o.source.faults_before o.source.faults_after → Writes 0 (last_of why) (halted_by why) result o.sink
    → EndsAs r result.status result o
header_halted r o held (halt.Read count) result has heads halts stalls blames writes =
    ends_from_none r o [] (halted_by (halt.Read count)) result writes (nothing_begins r o.source.before has)
    (λ grew. record { read = halts; wrote = IfSome_then o.source.before (header_cut_off r o.source.before o.source.after held count has heads stalls) (λ input read. ([], grew, read)); cause = blames })
header_halted r o held halt.Memory result has heads halts stalls blames writes =
    let begins = nothing_begins r o.source.before has in
    ends_from_none r o [] (halted_by halt.Memory) result writes begins
    (λ grew. record { place_is = refl; takes = may_want r.memory (Grew o.sink.before o.sink.after []) heads grew; wrote = IfSome_then o.source.before begins (λ input begun. ([], grew, begun)) })
header_halted {H} {L} {E} r o held (halt.Refused number why) result has heads halts stalls blames writes =
    let last = refused_line number (input_cause why) in
    let whole = IfSome_then o.source.before heads (λ input e. subst (λ (i : InputOf H E). r.reports i (refused_at number) last) (sym (headless r.format input (Refused number (input_cause why)) e)) (has.headless number (input_cause why))) in
    ends_from_none r o last (refused_at number) result writes (IfSome_then o.source.before whole (λ input report. begins_whole r (input_read r.format input) (refused_at number) last report))
    (λ grew. record { number = halts.0; read = halts.1; wrote = IfSome_then o.source.before whole (λ input report. (last, grew, report)) })

-- no machine was begun
pub unbegun : {H L E : Type 0} (r : Reporting H L E) (o : Outside) (held : List ℕ) (why : Halt) (result : Ended) → HasReports r → HaltsHeader r.format (TakesMemory r.memory) why o.source.before (prepend_known held o.source.after)
    → Halts {T = Unit {0}} (Err why) o.source.before o.source.after → Stalls {T = Unit {0}} (Err why) held → Blames {T = Unit {0}} (Err why) o.source.faults_before o.source.faults_after → o.source.faults_before ≤ o.source.faults_after
    → Writes 0 (last_of why) (halted_by why) result o.sink → o.sink.faults_before ≤ o.sink.faults_after → RanOver r result o × LeavesUnbegun r result o
unbegun r o held why result has heads halts stalls blames later writes wrote = (
  ran_by r result o (header_halted r o held why result has heads halts stalls blames writes)
      (counted_halted (Unit {0}) o o.sink.before o.source.faults_before o.sink.faults_before 0 [] why result blames later refl (λ some. absurd (omega (arith, some))) refl writes wrote),
  record { why = why; held = held; header = heads; writes = writes },
)
