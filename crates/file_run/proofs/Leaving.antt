-- How a run ends that began a machine, and what it leaves.
use Rattle.file_run.proofs.Common.{AppendedPart, AtEnd, BeginsReport, Blames, CountsFaults, Done, Ended, EndsAs, EndsReport, EndsStopped, EndsUnmet, EndsWhole, Err, FindsEvent, Goes, Grew, Halt, Halts, HasRead, IfSome, IfSome_then, InputCause, InputFormat, InputOf, IsBegun, IsFullness, IsOneAhead, IsPrefix, IsUnmet, LeavesAll, LeavesAs, LeavesDone, LinesBefore, Loses, MayFailIn, NoApp, NoFrame, None, Option, OutputView, Outside, RanOver, ReadsUpTo, ReadsWhole, Refusal, Refused, Reporting, ReportsReadLines, Rose, Running, Runs, Saying, Seen, Sent, Some, Stalls, Standing, Status, Stop, Stopped, StopsAfter, Told, Writes, append-nil, halt_stopped, halted_by, input_cause, input_read, input_stopped, last_of, length-append, line_after, line_of_end, most_held, prepend_known, refused_at, refused_line}
use Rattle.std.proofs.Common.{◌≡◌, ℕ, ◌+◌, ◌≤◌, ◌<◌, Bool, List, [], ◌∷◌, ◌++◌, length, refl, arith, ap, sym, subst, inl, inr, rules}
use Rattle.std.specs.Prelude.{◌⊎◌}
use Rattle.fsoe_io.specs.declared.status.Status.TheVariants as status
use Rattle.file_run.specs.Left.{IsWhole}
use Rattle.file_run.specs.declared.halt.Halt.TheVariants as halt
use Rattle.file_run.specs.declared.stopped.Stopped.TheVariants as stopped
use Rattle.file_run.proofs.Counted.{counted_halted, counted_last, counted_write, ran_by}
use Rattle.file_run.proofs.Running.{Reports, always_wants, as_whole, begun, by_seen, ended_next, event_seen, reads_failed, refused_after, stops_so}
use Rattle.file_run.proofs.Sending.{begins_whole, cut_part, ends_write, grew_written, piece_part, rose_since, text_part}
use Rattle.file_run.proofs.Taken.{halts_after, took_line}

-- how reports close
abbrev pub Closing : Type 0 → Type 0 → Type 1
Closing H E = H → List E → List ℕ → Ended → Type 0

-- what the outside told before the last write
abbrev pub before_write : Outside → Option (List ℕ) → ℕ → Outside
before_write o written faults = record { source = o.source; sink = record { before = o.sink.before; after = written; faults_before = o.sink.faults_before; faults_after = faults } }

-- what it tells of the last write
abbrev pub last_write : Outside → Option (List ℕ) → ℕ → Told
last_write o written faults = record { before = written; after = o.sink.after; faults_before = faults; faults_after = o.sink.faults_after }

-- what was read of an input is its beginning
begun_so : {H L E : Type 0} (f : InputFormat H L E) (d : Done H E) (told left : Option (List ℕ)) → Seen f d.heading d.lines told left d.log → IsBegun f d told
begun_so {H} {L} {E} f d told left seen =
    by_seen f d.heading d.lines d.log told left (λ (input : InputOf H E). (more : List E) × (stop : Stop) × (input ≡ input_stopped d.heading d.lines (d.log ++ more) stop)) seen (λ more stop. (more, stop, refl))

-- what a run did before a line
abbrev done_so : {H L E : Type 0} {r : Reporting H L E} {stands : Standing H E} {says : Saying L} {left0 left w0 w : Option (List ℕ)} {waiting : OutputView} {events lines : ℕ} → Running r stands says left0 left w0 w waiting events lines → Done H E
done_so k = record { heading = k.heading; lines = k.header; log = k.log; text = k.text }

-- what holds of a run whose write failed after so many bytes
abbrev MayBeAhead : {H L E : Type 0} → Reporting H L E → Done H E → ℕ → Type 0
MayBeAhead r d sent = (place : ℕ) → sent ≤ place → IsOneAhead r d place

-- one event at most was done after those that a run had read
ahead_so : {H L E : Type 0} {r : Reporting H L E} {stands : Standing H E} {says : Saying L} {left0 left w0 w : Option (List ℕ)} {waiting : OutputView} {events lines : ℕ} (k : Running r stands says left0 left w0 w waiting events lines) → Reports r stands
    → (log ahead : List E) (text : List ℕ) → log ≡ k.log ++ ahead → length ahead ≤ 1 → IsPrefix k.text text → MayBeAhead r (record { heading = k.heading; lines = k.header; log = log; text = text }) waiting.sent
ahead_so {H} {L} {E} {r} {stands} {says} {left0} {left} {w0} {w} {waiting} k reports log ahead text are one begins = λ place later. record {
  before = k.log;
  ahead = ahead;
  are = are;
  one = one;
  text = k.text;
  reported = reports k.heading k.log k.text k.stood;
  begins = begins;
  few = omega (arith, later, k.most, k.sent.count, ap (length {A = ℕ}) k.sent.whole, length-append k.sent.sent waiting.bytes);
}

-- where no event was done after these
still_so : {H L E : Type 0} {r : Reporting H L E} {stands : Standing H E} {says : Saying L} {left0 left w0 w : Option (List ℕ)} {waiting : OutputView} {events lines : ℕ} (k : Running r stands says left0 left w0 w waiting events lines) → Reports r stands
    → MayBeAhead r (done_so k) waiting.sent
still_so k reports = ahead_so k reports k.log [] k.text (sym (append-nil k.log)) (omega arith) ([], sym (append-nil k.text))

-- how a run ended that did this, and what it left
abbrev EndsSo : {H L E : Type 0} → Reporting H L E → Closing H E → Done H E → Outside → Ended → Type 0
EndsSo r closes d o ended = EndsAs r ended.status ended o × LeavesAs r closes d ended.status ended o

-- a run ended whose machine stands so
ended_so : {H L E : Type 0} (r : Reporting H L E) (left : Standing H E) (closes : Closing H E) (d : Done H E) (o : Outside) (ended : Ended) → EndsSo r closes d o ended → CountsFaults ended.status o → left d.heading d.log d.text → IsBegun r.format d o.source.before
    → RanOver r ended o × LeavesDone r left closes ended o
ended_so r left closes d o ended so counts stood begun = (ran_by r ended o so.0 counts, record { done = d; stood = stood; begun = begun; ends = so.1 })

-- a write failed
write_so : {H L E : Type 0} (r : Reporting H L E) (closes : Closing H E) (d : Done H E) (o : Outside) (ended : Ended) (whole : List ℕ) → ended.status ≡ status.Write → AppendedPart o.sink.before o.sink.after ended.place whole
    → IfSome o.source.before (λ input. BeginsReport r (input_read r.format input) whole) → MayFailIn r.format closes d whole o.source.before → IsOneAhead r d ended.place → Rose o.sink.faults_before o.sink.faults_after → EndsSo r closes d o ended
write_so r closes d o ended whole e part begins within ahead rose = (ends_write r o ended whole e part begins rose, rw e (record { whole = whole; within = within; wrote = part; last = ahead }))

-- a run ends as it is to, or a write failed at the end
last_so : {H L E : Type 0} (r : Reporting H L E) (closes : Closing H E) (d : Done H E) (o : Outside) (w : Option (List ℕ)) (faults : ℕ) (waiting : OutputView) (last : List ℕ) (ended result : Ended) → Sent o.sink.before w waiting d.text → faults ≡ o.sink.faults_before
    → MayBeAhead r d waiting.sent → Writes waiting.sent (waiting.bytes ++ last) ended result (last_write o w faults) → IfSome o.source.before (λ input. BeginsReport r (input_read r.format input) (d.text ++ last)) → MayFailIn r.format closes d (d.text ++ last) o.source.before
    → (Grew o.sink.before o.sink.after (d.text ++ last) → EndsSo r closes d o ended) → EndsSo r closes d o result
last_so r closes d o w faults waiting last ended result s same ahead writes begins within ends =
    elim writes [
      | inl whole ↦ subst (EndsSo r closes d o) (sym whole.0) (ends (grew_written o.sink.before w o.sink.after waiting d.text last s whole.1))
      | inr cut ↦
          write_so r closes d o result (d.text ++ last) cut.status_is (cut_part o.sink.before w waiting d.text last result (last_write o w faults) s cut) begins within (ahead result.place (omega (arith, cut.place_is)))
          (rose_since o.sink.faults_before faults o.sink.faults_after same cut.cause)
    ]

-- nothing more was to be written
text_so : {H L E : Type 0} (r : Reporting H L E) (closes : Closing H E) (d : Done H E) (o : Outside) (w : Option (List ℕ)) (faults : ℕ) (waiting : OutputView) (ended result : Ended) → Sent o.sink.before w waiting d.text → faults ≡ o.sink.faults_before → MayBeAhead r d waiting.sent
    → Writes waiting.sent (waiting.bytes ++ []) ended result (last_write o w faults) → IfSome o.source.before (λ input. BeginsReport r (input_read r.format input) d.text) → (Grew o.sink.before o.sink.after d.text → EndsSo r closes d o ended) → EndsSo r closes d o result
text_so r closes d o w faults waiting ended result s same ahead writes begins ends =
    last_so r closes d o w faults waiting [] ended result s same ahead writes (subst (λ (z : List ℕ). IfSome o.source.before (λ input. BeginsReport r (input_read r.format input) z)) (sym (append-nil d.text)) begins) (inl (append-nil d.text))
    (λ grew. ends (subst (Grew o.sink.before o.sink.after) (append-nil d.text) grew))

-- the line after the events is refused
refused_so : {H L E : Type 0} (r : Reporting H L E) (closes : Closing H E) (d : Done H E) (o : Outside) (w : Option (List ℕ)) (faults : ℕ) (waiting : OutputView) (number : ℕ) (why : InputCause) (result : Ended) → Sent o.sink.before w waiting d.text → faults ≡ o.sink.faults_before
    → MayBeAhead r d waiting.sent → Writes waiting.sent (waiting.bytes ++ refused_line number why) (refused_at number) result (last_write o w faults) → number ≡ line_after d → StopsAfter r.format d why o.source.before → LinesBefore number o.source.before
    → ReadsUpTo number o.source.before o.source.after → IfSome o.source.before (λ input. r.reports (input_read r.format input) (refused_at number) (d.text ++ refused_line number why)) → EndsSo r closes d o result
refused_so r closes d o w faults waiting number why result s same ahead writes e stops before read whole =
    let text = d.text ++ refused_line number why in
    last_so r closes d o w faults waiting (refused_line number why) (refused_at number) result s same ahead writes (IfSome_then o.source.before whole (λ input report. begins_whole r (input_read r.format input) (refused_at number) text report))
    (inr (inl (why, ap (λ (n : ℕ). d.text ++ refused_line n why) e, stops)))
    (λ grew. (record { number = before; read = read; wrote = IfSome_then o.source.before whole (λ input report. (text, grew, report)) }, record { why = why; stops = stops; number_is = e; wrote = grew }))

-- a write failed before a line
pub unsent : {H L E : Type 0} (r : Reporting H L E) (stands left : Standing H E) (closes : Closing H E) (says : Saying L) (o : Outside) (held : List ℕ) (w : Option (List ℕ)) (faults : ℕ) (waiting now : OutputView) (events lines : ℕ) (rest : List ℕ) (ended : Ended)
    (k : Runs r stands says (before_write o w faults) held waiting events lines) → Reports r stands → left k.running.heading k.running.log k.running.text → Loses waiting now w o.sink.after [] rest → ended.status ≡ status.Write → ended.place ≡ now.sent
    → Rose faults o.sink.faults_after → faults ≤ o.sink.faults_after → RanOver r ended o × LeavesDone r left closes ended o
unsent r stands left closes says o held w faults waiting now events lines rest ended k reports stood p e place rose later =
    let run = k.running in
    ended_so r left closes (done_so run) o ended
    (write_so r closes (done_so run) o ended run.text e (text_part o.sink.before w o.sink.after waiting now run.text rest ended.place run.sent p place) (begun run reports) (inl refl) (still_so run reports ended.place (omega (arith, place, p.passes.sent)))
    (rose_since o.sink.faults_before faults o.sink.faults_after k.sink_stays rose))
    (counted_write ended o e k.source_stays (omega (arith, k.sink_stays, later))) stood (begun_so r.format (done_so run) o.source.before (prepend_known held o.source.after) run.seen)

-- the text of an event could not be written
pub lost : {H L E : Type 0} (r : Reporting H L E) (old new left : Standing H E) (closes : Closing H E) (says : Saying L) (o : Outside) (held : List ℕ) (w : Option (List ℕ)) (faults : ℕ) (waiting now : OutputView) (events lines : ℕ) (event : E) (piece rest : List ℕ) (ended : Ended)
    (k : HasRead r old says (before_write o w faults) held waiting events lines (Some event)) → Reports r old → Reports r new → new k.running.heading (k.running.log ++ event ∷ []) (k.running.text ++ piece) → left k.running.heading (k.running.log ++ event ∷ []) (k.running.text ++ piece)
    → Loses waiting now w o.sink.after piece rest → ended.status ≡ status.Write → ended.place ≡ now.sent → Rose faults o.sink.faults_after → faults ≤ o.sink.faults_after → RanOver r ended o × LeavesDone r left closes ended o
lost {H} {L} {E} r old new left closes says o held w faults waiting now events lines event piece rest ended k reports more_reports did stood p e place rose later =
    let run = k.running in
    let text = run.text ++ piece in
    let d : Done H E = record { heading = run.heading; lines = run.header; log = run.log ++ event ∷ []; text = text } in
    let c = prepend_known held o.source.after in
    ended_so r left closes d o ended
    (write_so r closes d o ended text e (piece_part o.sink.before w o.sink.after waiting now run.text piece rest ended.place run.sent p place)
    (by_seen r.format run.heading run.header (run.log ++ event ∷ []) o.source.before c (λ input. BeginsReport r input text) (event_seen k) ((more_reports run.heading (run.log ++ event ∷ []) text did).begins run.header)) (inl refl)
    (ahead_so run reports (run.log ++ event ∷ []) (event ∷ []) text refl (omega arith) (piece, refl) ended.place (omega (arith, place, p.passes.sent))) (rose_since o.sink.faults_before faults o.sink.faults_after k.sink_stays rose))
    (counted_write ended o e k.source_stays (omega (arith, k.sink_stays, later))) stood (begun_so r.format d o.source.before c (event_seen k))

-- the next line is refused by itself
stops_by : {H L E : Type 0} (r : Reporting H L E) (stands : Standing H E) (says : Saying L) (full : Bool) (left0 b c w0 w : Option (List ℕ)) (waiting : OutputView) (events lines number : ℕ) (why : Refusal) (k : Running r stands says left0 b w0 w waiting events lines)
    → FindsEvent r.format.event says full (Err (halt.Refused number why)) b c → IsFullness r stands events full → number ≡ k.header + length k.log + 1
    → StopsAfter r.format (done_so k) (input_cause why) left0
stops_by r stands says full left0 b c w0 w waiting events lines number why k h l m = search rules

-- the run so far hasn't what the event of the next line names
unmet_so : {H L E : Type 0} (r : Reporting H L E) (stands : Standing H E) (closes : Closing H E) (says : Saying L) (o : Outside) (held : List ℕ) (w : Option (List ℕ)) (faults : ℕ) (waiting : OutputView) (events lines : ℕ) (event : E) (why : InputCause) (result : Ended)
    (k : HasRead r stands says (before_write o w faults) held waiting events lines (Some event)) → Reports r stands → EndsUnmet r k.running.heading k.running.log k.running.text event why → IsUnmet why
    → Writes waiting.sent (waiting.bytes ++ refused_line lines why) (refused_at lines) result (last_write o w faults) → EndsSo r closes (done_so k.running) o result
unmet_so {H} {L} {E} r stands closes says o held w faults waiting events lines event why result k reports unmet is writes =
    let run = k.running in
    let c = prepend_known held o.source.after in
    let log = run.log ++ event ∷ [] in
    let number : lines ≡ run.header + length run.log + 1 = omega (arith, k.next, run.lined, run.count) in
    refused_so r closes (done_so run) o w faults waiting lines why result run.sent k.sink_stays (still_so run reports) writes number
    (by_seen r.format run.heading run.header log o.source.before c
    (λ (input : InputOf H E).
    (input ≡ input_stopped run.heading run.header run.log (Refused (run.header + length run.log + 1) why))
    ⊎ ((event : E) × (more : List E) × (stop : Stop) × (input ≡ input_stopped run.heading run.header ((run.log ++ event ∷ []) ++ more) stop) × IsUnmet why))
    (event_seen k) (λ more stop. inr (event, more, stop, refl, is)))
    (k.count, k.left, k.next, run.took)
    (lines, omega arith, omega arith, record { held = held; most = k.most; took = took_line k.count lines o.source.before k.left c k.finds.0 run.took k.finds.1 k.finds.2 k.next })
    (by_seen r.format run.heading run.header log o.source.before c (λ input. r.reports input (refused_at lines) (run.text ++ refused_line lines why)) (event_seen k)
    (λ more stop. subst (λ (n : ℕ). r.reports (input_stopped run.heading run.header (log ++ more) stop) (refused_at n) (run.text ++ refused_line n why)) (sym number) (unmet run.header more stop)))

-- the event of the next line isn't done
stopped_so : {H L E : Type 0} (r : Reporting H L E) (stands : Standing H E) (closes : Closing H E) (says : Saying L) (o : Outside) (held : List ℕ) (w : Option (List ℕ)) (faults : ℕ) (waiting : OutputView) (events lines : ℕ) (event : E) (why : Stopped) (result : Ended)
    (k : HasRead r stands says (before_write o w faults) held waiting events lines (Some event)) → Reports r stands → EndsStopped r k.running.heading k.running.log k.running.text event why
    → Writes waiting.sent (waiting.bytes ++ last_of (halt_stopped why lines)) (halted_by (halt_stopped why lines)) result (last_write o w faults) → EndsSo r closes (done_so k.running) o result
stopped_so r stands closes says o held w faults waiting events lines event stopped.NoFrame result k reports stops writes = unmet_so r stands closes says o held w faults waiting events lines event NoFrame result k reports stops (inl refl) writes
stopped_so r stands closes says o held w faults waiting events lines event stopped.NoApp result k reports stops writes = unmet_so r stands closes says o held w faults waiting events lines event NoApp result k reports stops (inr refl) writes
stopped_so r stands closes says o held w faults waiting events lines event stopped.Memory result k reports stops writes =
    let run = k.running in
    text_so r closes (done_so run) o w faults waiting (halted_by halt.Memory) result run.sent k.sink_stays (still_so run reports) writes (begun run reports)
    (λ grew. (record { place_is = refl; takes = always_wants r.memory (Grew o.sink.before o.sink.after []) stops; wrote = IfSome_then o.source.before (begun run reports) (λ input begins. (run.text, grew, begins)) }, grew))

pub not_done : {H L E : Type 0} (r : Reporting H L E) (stands left : Standing H E) (closes : Closing H E) (says : Saying L) (o : Outside) (held : List ℕ) (w : Option (List ℕ)) (faults : ℕ) (waiting : OutputView) (events lines : ℕ) (event : E) (why : Stopped) (result : Ended)
    (k : HasRead r stands says (before_write o w faults) held waiting events lines (Some event)) → Reports r stands → left k.running.heading k.running.log k.running.text → EndsStopped r k.running.heading k.running.log k.running.text event why
    → Writes waiting.sent (waiting.bytes ++ last_of (halt_stopped why lines)) (halted_by (halt_stopped why lines)) result (last_write o w faults) → faults ≤ o.sink.faults_after → RanOver r result o × LeavesDone r left closes result o
not_done r stands left closes says o held w faults waiting events lines event why result k reports stood stops writes later =
    ended_so r left closes (done_so k.running) o result (stopped_so r stands closes says o held w faults waiting events lines event why result k reports stops writes)
    (counted_last o w faults waiting.sent (waiting.bytes ++ last_of (halt_stopped why lines)) (halted_by (halt_stopped why lines)) result k.source_stays k.sink_stays writes later) stood (begun_so r.format (done_so k.running) o.source.before k.left k.running.seen)

-- the input goes no further
halted_so : {H L E : Type 0} (r : Reporting H L E) (stands : Standing H E) (closes : Closing H E) (says : Saying L) (full : Bool) (o : Outside) (b : Option (List ℕ)) (held : List ℕ) (w : Option (List ℕ)) (read faults : ℕ) (waiting : OutputView) (events lines now : ℕ) (why : Halt) (result : Ended)
    (k : Running r stands says o.source.before b o.sink.before w waiting events lines) → Reports r stands → FindsEvent r.format.event says full (Err why) b (prepend_known held o.source.after) → IsFullness r stands events full → Goes {T = Unit {0}} (Err why) lines now b (prepend_known held o.source.after)
    → Stalls {T = Unit {0}} (Err why) held → Halts {T = Unit {0}} (Err why) o.source.before o.source.after → Blames {T = Unit {0}} (Err why) read o.source.faults_after → read ≡ o.source.faults_before → faults ≡ o.sink.faults_before
    → Writes waiting.sent (waiting.bytes ++ last_of why) (halted_by why) result (last_write o w faults) → EndsSo r closes (done_so k) o result
halted_so r stands closes says full o b held w read faults waiting events lines now (halt.Read count) result k reports finds fullness goes stalls halts blames from same writes =
    let place : k.header + length k.log ≡ count = omega (arith, k.lined, k.count, goes.0) in
    let reads = subst (λ (n : ℕ). IfSome o.source.before (λ input. ReportsReadLines r n input o.source.after k.text)) place
    (reads_failed r says full o.source.before b o.source.after held k.heading k.header k.log k.text k.same (fullness k.heading k.log k.text k.count k.stood) k.seen (reports k.heading k.log k.text k.stood) goes.1 stalls) in
    text_so r closes (done_so k) o w faults waiting (halted_by (halt.Read count)) result k.sent same (still_so k reports) writes (begun k reports)
    (λ grew. (record { read = halts; wrote = IfSome_then o.source.before reads (λ input read. (k.text, grew, read)); cause = rose_since o.source.faults_before read o.source.faults_after from blames }, record { lines_are = sym place; wrote = grew }))
halted_so r stands closes says full o b held w read faults waiting events lines now halt.Memory result k reports finds fullness goes stalls halts blames from same writes = absurd finds
halted_so r stands closes says full o b held w read faults waiting events lines now (halt.Refused number why) result k reports finds fullness goes stalls halts blames from same writes =
    let c = prepend_known held o.source.after in
    let last = refused_line number (input_cause why) in
    let at : number ≡ k.header + length k.log + 1 = omega (arith, k.lined, k.count, goes.0) in
    refused_so r closes (done_so k) o w faults waiting number (input_cause why) result k.sent same (still_so k reports) writes at (stops_by r stands says full o.source.before b c o.sink.before w waiting events lines number why k finds fullness at) halts.0 halts.1
    (stops_so r.format k.heading k.header k.log o.source.before b (Refused number (input_cause why)) (λ input. r.reports input (refused_at number) (k.text ++ last)) k.seen
    (refused_after r stands says full o.source.before b c o.sink.before w waiting events lines number why k finds fullness at) ((reports k.heading k.log k.text k.stood).refused k.header number (input_cause why)))

pub halted : {H L E : Type 0} (r : Reporting H L E) (stands left : Standing H E) (closes : Closing H E) (says : Saying L) (full : Bool) (o : Outside) (b : Option (List ℕ)) (held : List ℕ) (w : Option (List ℕ)) (read faults : ℕ) (waiting : OutputView) (events lines now : ℕ) (why : Halt) (result : Ended)
    (k : Running r stands says o.source.before b o.sink.before w waiting events lines) → Reports r stands → left k.heading k.log k.text → FindsEvent r.format.event says full (Err why) b (prepend_known held o.source.after) → IsFullness r stands events full
    → Goes {T = Unit {0}} (Err why) lines now b (prepend_known held o.source.after) → Stalls {T = Unit {0}} (Err why) held → length held ≤ most_held → Blames {T = Unit {0}} (Err why) read o.source.faults_after → read ≤ o.source.faults_after → read ≡ o.source.faults_before
    → (0 < length waiting.bytes → o.source.faults_after ≡ read) → faults ≡ o.sink.faults_before → Writes waiting.sent (waiting.bytes ++ last_of why) (halted_by why) result (last_write o w faults) → faults ≤ o.sink.faults_after → RanOver r result o × LeavesDone r left closes result o
halted r stands left closes says full o b held w read faults waiting events lines now why result k reports stood finds fullness goes stalls most blames later from empty same writes wrote =
    let halts = halts_after o.source.before b o.source.after held lines now why k.took goes stalls most in
    ended_so r left closes (done_so k) o result (halted_so r stands closes says full o b held w read faults waiting events lines now why result k reports finds fullness goes stalls halts blames from same writes)
    (counted_halted (Unit {0}) o w read faults waiting.sent waiting.bytes why result blames later from empty same writes wrote) stood (begun_so r.format (done_so k) o.source.before b k.seen)

-- a run to the end ends so
did_all : {H L E : Type 0} (r : Reporting H L E) (closes : Closing H E) (d : Done H E) (judges : Bool) (s : Status) (place : ℕ) (ended : Ended) (o : Outside) → EndsWhole judges s place → LeavesAll r.format closes d ended o → LeavesAs r closes d s ended o
did_all r closes d judges s place ended o h k = grind arith

pub at_end : {H L E : Type 0} (r : Reporting H L E) (stands left : Standing H E) (closes : Closing H E) (says : Saying L) (o : Outside) (held : List ℕ) (w : Option (List ℕ)) (faults : ℕ) (waiting : OutputView) (events lines : ℕ) (last : List ℕ) (ended result : Ended)
    (k : HasRead r stands says (before_write o w faults) held waiting events lines None) → Reports r stands → left k.running.heading k.running.log k.running.text → closes k.running.heading k.running.log (k.running.text ++ last) ended
    → EndsReport r k.running.heading k.running.log (k.running.text ++ last) ended → EndsWhole r.judges ended.status ended.place → Writes waiting.sent (waiting.bytes ++ last) ended result (last_write o w faults) → faults ≤ o.sink.faults_after
    → RanOver r result o × LeavesDone r left closes result o
at_end {H} {L} {E} r stands left closes says o held w faults waiting events lines last ended result k reports stood closed reported ends writes later =
    let run = k.running in
    let d = done_so run in
    let text = run.text ++ last in
    let stops = ended_next k in
    let whole : IsWhole r.format d o.source.before = stops_so r.format run.heading run.header run.log o.source.before k.left AtEnd (λ input. input ≡ input_stopped run.heading run.header run.log AtEnd) run.seen stops refl in
    let reports_it = stops_so r.format run.heading run.header run.log o.source.before k.left AtEnd (λ input. r.reports input ended text) run.seen stops (reported run.header) in
    let read : ReadsWhole r.format o.source.before o.source.after = (
      lines,
      stops_so r.format run.heading run.header run.log o.source.before k.left AtEnd (λ (input : InputOf H E). lines ≡ line_of_end input) run.seen stops (omega (arith, k.next, run.lined, run.count)),
      record { held = held; most = k.most; took = took_line k.count lines o.source.before k.left (prepend_known held o.source.after) k.finds.0 run.took k.finds.1 k.finds.2 k.next },
    ) in
    ended_so r left closes d o result
    (last_so r closes d o w faults waiting last ended result run.sent k.sink_stays (still_so run reports) writes (IfSome_then o.source.before reports_it (λ input report. begins_whole r (input_read r.format input) ended text report)) (inr (inr (ended, closed, whole)))
    (λ grew. (
      as_whole r ended.status ended.place ended o ends (record { ends = ends; read = read; wrote = IfSome_then o.source.before reports_it (λ input report. (text, grew, report)) }),
      did_all r closes d r.judges ended.status ended.place ended o ends (record { input = whole; report = text; closed = closed; wrote = grew }),
    )))
    (counted_last o w faults waiting.sent (waiting.bytes ++ last) ended result k.source_stays k.sink_stays writes later) stood (begun_so r.format d o.source.before k.left run.seen)
