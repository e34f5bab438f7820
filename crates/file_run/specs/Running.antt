-- A run between two lines of its input, and what a step of it does.
use Rattle.std.specs.Prelude.{◌≡◌, ℕ, ◌+◌, ◌*◌, ◌≤◌, ◌<◌, Bool, false, List, ◌++◌, length, map, slice_get, Some, None, Result, Ok, ◌⊎◌}
use Rattle.std.specs.declared.option.Option.{Option}
use Rattle.std.specs.Io.KnownBytes.{Consumes, prepend_known}
use Rattle.fsoe_io.specs.Line.{most_held}
use Rattle.fsoe_io.specs.Output.{OutputView}
use Rattle.fsoe_io.specs.Sink.{most_waiting, Grew}
use Rattle.fsoe_io.specs.declared.status.Ended.{Ended}
use Rattle.schedule_file.specs.Input.{InputCause, InputFormat, InputOf, lines_of, texts, steps, with_room, stop_at, input_read}
use Rattle.schedule_file.specs.Limits.{max_events}
use Rattle.schedule_file.specs.declared.line_cause.LineCause.{LineCause}
use Rattle.file_run.specs.Event.{FindsEvent}
use Rattle.file_run.specs.Machine.{most_lines, most_parts}
use Rattle.file_run.specs.Outside.{Outside}
use Rattle.file_run.specs.Reporting.{Reporting}
use Rattle.file_run.specs.WholeLines.{TookLines}
use Rattle.file_run.specs.Left.{LeavesAs, IsBegun, LeavesUnbegun, Done}

-- lines that are to come
abbrev pub Lines : Type 0
Lines = List (Result (List ℕ) InputCause)

-- the events of these lines, which come after those that were read
abbrev pub more_on : {H L E : Type 0} → InputFormat H L E → H → List E → Lines → List E
more_on f h log rest = with_room (f.is_full h) log (steps f.event (map (f.line h) (texts rest)))

-- an input with these events, after a header of so many lines, and with this line after them
abbrev pub input_with : {H L E : Type 0} → InputFormat H L E → H → ℕ → List E → Option (Result (List ℕ) InputCause) → InputOf H E
input_with f h n events last = record { heading = Some h; lines = n; events = events; stop = stop_at f h (n + length events + 1) (f.is_full h events) last }

-- an input of which a header of so many lines and these events were read, and then come these lines
abbrev pub input_on : {H L E : Type 0} → InputFormat H L E → H → ℕ → List E → Lines → InputOf H E
input_on f h n log rest = input_with f h n (log ++ more_on f h log rest) (slice_get rest (length (more_on f h log rest)))

-- the bytes taken are the header and the lines of these events, whatever comes after them
pub record Seen {H L E : Type 0} (f : InputFormat H L E) (h : H) (n : ℕ) (old new : Option (List ℕ)) (log : List E) : Type 0 where
  pub taken : List ℕ
  pub goes : Consumes old new taken
  pub says : (more : List ℕ) → input_read f (taken ++ more) ≡ input_on f h n log (lines_of more)

-- what went to the sink and what waits are the text so far
pub record Sent (written0 written : Option (List ℕ)) (waiting : OutputView) (text : List ℕ) : Type 0 where
  pub sent : List ℕ
  pub sink : Grew written0 written sent
  pub count : waiting.sent ≡ length sent
  pub whole : sent ++ waiting.bytes ≡ text

-- what a machine stands for
abbrev pub Standing : Type 0 → Type 0 → Type 1
Standing H E = H → List E → List ℕ → Type 0

-- what lines say
abbrev pub Saying : Type 0 → Type 0
Saying L = List ℕ → Result L LineCause

-- lines say what they say after this header
abbrev pub SaysSo : {H L E : Type 0} → InputFormat H L E → H → Saying L → Type 0
SaysSo f h says = (text : List ℕ) → says text ≡ f.line h text

-- what holds before each line after a header: a machine stands for the events that were read, and what went to the sink
-- and what waits are the text that it wrote
pub record Running {H L E : Type 0} (r : Reporting H L E) (stands : Standing H E) (says : Saying L) (left0 left w0 w : Option (List ℕ)) (waiting : OutputView) (events lines : ℕ) : Type 0 where
  pub heading : H
  pub header : ℕ
  pub log : List E
  pub text : List ℕ
  pub stood : stands heading log text
  pub same : SaysSo r.format heading says
  pub seen : Seen r.format heading header left0 left log
  pub took : TookLines lines left0 left
  pub sent : Sent w0 w waiting text
  pub most : length waiting.bytes ≤ most_waiting
  pub size : waiting.sent + length waiting.bytes ≤ (1024 + 1024 * most_parts) * events
  pub count : length log ≡ events
  pub few : events ≤ max_events
  pub lined : lines ≡ header + events
  pub headed : header ≤ most_lines

-- what the outside told when a run began
pub record Start : Type 0 where
  pub input : Option (List ℕ)
  pub written : Option (List ℕ)
  pub source_faults : ℕ
  pub sink_faults : ℕ

-- what it tells of the run up to now
abbrev pub since : Start → Option (List ℕ) → ℕ → Option (List ℕ) → ℕ → Outside
since s left source_faults written sink_faults = record {
  source = record { before = s.input; after = left; faults_before = s.source_faults; faults_after = source_faults };
  sink = record { before = s.written; after = written; faults_before = s.sink_faults; faults_after = sink_faults };
}

-- a run goes on, with this held of its input, and nothing failed
pub record Runs {H L E : Type 0} (r : Reporting H L E) (stands : Standing H E) (says : Saying L) (o : Outside) (held : List ℕ) (waiting : OutputView) (events lines : ℕ) : Type 0 where
  pub running : Running r stands says o.source.before (prepend_known held o.source.after) o.sink.before o.sink.after waiting events lines
  pub source_stays : o.source.faults_after ≡ o.source.faults_before
  pub sink_stays : o.sink.faults_after ≡ o.sink.faults_before

-- whether there may be no event more is as the format says
abbrev pub IsFullness : {H L E : Type 0} → Reporting H L E → Standing H E → ℕ → Bool → Type 0
IsFullness {H} {L} {E} r stands events full = (h : H) (log : List E) (text : List ℕ) → length log ≡ events → stands h log text → full ≡ r.format.is_full h log

-- the next line was read, which has this event, or none, and nothing failed
pub record HasRead {H L E : Type 0} (r : Reporting H L E) (stands : Standing H E) (says : Saying L) (o : Outside) (held : List ℕ) (waiting : OutputView) (events lines : ℕ) (event : Option E) : Type 0 where
  pub full : Bool
  pub left : Option (List ℕ)
  pub count : ℕ
  pub running : Running r stands says o.source.before left o.sink.before o.sink.after waiting events count
  pub finds : FindsEvent r.format.event says full (Ok event) left (prepend_known held o.source.after)
  pub fullness : IsFullness r stands events full
  pub few : full ≡ false → events < max_events
  pub next : lines ≡ count + 1
  pub most : length held ≤ most_held
  pub source_stays : o.source.faults_after ≡ o.source.faults_before
  pub sink_stays : o.sink.faults_after ≡ o.sink.faults_before

-- a step goes on, or ends the run
abbrev pub StepsTo : Option Ended → Type 0 → (Ended → Type 0) → Type 0
StepsTo None goes ends = goes
StepsTo (Some ended) goes ends = ends ended

-- a machine was begun: what it did stands at the end, as far as it came in the input
pub record LeavesDone {H L E : Type 0} (r : Reporting H L E) (stands : H → List E → List ℕ → Type 0) (closes : H → List E → List ℕ → Ended → Type 0) (ended : Ended) (o : Outside) : Type 0 where
  pub done : Done H E
  pub stood : stands done.heading done.log done.text
  pub begun : IsBegun r.format done o.source.before
  pub ends : LeavesAs r closes done ended.status ended o

-- a run began no machine, and left what was handed unchanged; or what its machine did stands
abbrev pub Leaves : {H L E : Type 0} → Type 0 → Reporting H L E → (H → List E → List ℕ → Type 0) → (H → List E → List ℕ → Ended → Type 0) → Ended → Outside → Type 0
Leaves unchanged r stands closes ended o = (unchanged × LeavesUnbegun r ended o) ⊎ LeavesDone r stands closes ended o
