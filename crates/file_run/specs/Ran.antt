-- How a run over an input ended, and what it wrote. H is what a header says, L what a line after it says, and E an event.
use Rattle.std.specs.Prelude.{◌≡◌, ◌≢◌, ℕ, ◌+◌, ◌<◌, Bool, IsTrue, List, [], ◌++◌, length, IfSome, Some}
use Rattle.std.specs.declared.option.Option.{Option}
use Rattle.std.specs.Io.KnownBytes.{Consumes, prepend_known}
use Rattle.fsoe_io.specs.Faults.{Rose}
use Rattle.fsoe_io.specs.Line.{HasNoNewline}
use Rattle.fsoe_io.specs.declared.status.Ended.{Ended}
use Rattle.fsoe_io.specs.declared.status.Status.{Status}
use Rattle.fsoe_io.specs.declared.status.Status.TheVariants as status
use Rattle.schedule_file.specs.Input.{InputFormat, InputOf, NoLine, Refused, input_read}
use Rattle.file_run.specs.Ending.{Appended, LinesBefore, ReadLines}
use Rattle.file_run.specs.Outside.{CountsFaults, HadNoFault, Outside, Wrote}
use Rattle.file_run.specs.Report.{refused_line}
use Rattle.fsoe_io.specs.Sink.{Grew}
use Rattle.file_run.specs.Reporting.{Reporting, MemoryUse, Never, BeforeEvents, Always, BeginsReport, CutsReport, refused_at}
use Rattle.file_run.specs.WholeLines.{ReadsTo, ReadsUpTo}

-- a run to the `end` of its input ends with status 0 and place 0, or, where the command looks for other entries, with
-- status 1 and a place above 0; that the place is the number of the first other entry is the report's
abbrev pub EndsWhole : Bool → Status → ℕ → Type 0
EndsWhole judges status.Ok place = place ≡ 0
EndsWhole judges status.Other place = IsTrue judges × (0 < place)
EndsWhole judges _ place = ⊥

-- the number of the line after the events of an input, which is `end` where it stops so
abbrev pub line_of_end : {H E : Type 0} → InputOf H E → ℕ
line_of_end input = input.lines + length input.events + 1

-- the lines of an input up to `end` were taken, and what else was read a reader holds
abbrev pub ReadsWhole : {H L E : Type 0} → InputFormat H L E → Option (List ℕ) → Option (List ℕ) → Type 0
ReadsWhole f old left = (lines : ℕ) × IfSome old (λ input. lines ≡ line_of_end (input_read f input)) × ReadsTo lines old left

-- the whole report of the input was written, and the run ended as one that writes it does
abbrev pub WroteReport : {H L E : Type 0} → Reporting H L E → Ended → Outside → Type 0
WroteReport r ended o = Wrote o (λ input text. r.reports (input_read r.format input) ended text)

-- the run came to the `end` of its input, read no further, and wrote its whole report
pub record CameToEnd {H L E : Type 0} (r : Reporting H L E) (ended : Ended) (o : Outside) : Type 0 where
  pub ends : EndsWhole r.judges ended.status ended.place
  pub read : ReadsWhole r.format o.source.before o.source.after
  pub wrote : WroteReport r ended o

-- a line is refused, whose number is the place, no more was read, and the whole report was written
pub record CameToRefused {H L E : Type 0} (r : Reporting H L E) (ended : Ended) (o : Outside) : Type 0 where
  pub number : LinesBefore ended.place o.source.before
  pub read : ReadsUpTo ended.place o.source.before o.source.after
  pub wrote : WroteReport r ended o

-- a text is the report of so many whole lines that were taken, without its last line, which says that no line comes
-- after them
pub record ReportsReadLines {H L E : Type 0} (r : Reporting H L E) (lines : ℕ) (input : List ℕ) (left : Option (List ℕ)) (text : List ℕ) : Type 0 where
  pub taken : List ℕ
  pub held : List ℕ
  pub goes : Consumes (Some input) (prepend_known held left) taken
  pub open_line : HasNoNewline held
  pub stops : (input_read r.format taken).stop ≡ Refused (lines + 1) NoLine
  pub writes : r.reports (input_read r.format taken) (refused_at (lines + 1)) (text ++ refused_line (lines + 1) NoLine)
  pub begins : BeginsReport r (input_read r.format input) text

-- a read failed after so many whole lines, and the report of these was written
pub record FailedRead {H L E : Type 0} (r : Reporting H L E) (lines : ℕ) (o : Outside) : Type 0 where
  pub read : ReadLines lines o.source.before o.source.after
  pub wrote : Wrote o (λ input text. ReportsReadLines r lines input o.source.after text)
  pub cause : Rose o.source.faults_before o.source.faults_after

-- a write failed after so many bytes, which are a first part of the report, and it is longer
pub record FailedWrite {H L E : Type 0} (r : Reporting H L E) (bytes : ℕ) (o : Outside) : Type 0 where
  pub appended : Appended bytes o.sink.before o.sink.after
  pub wrote : Wrote o (λ input text. (bytes ≡ length text) × CutsReport r (input_read r.format input) text)
  pub cause : Rose o.sink.faults_before o.sink.faults_after

-- a command may want memory that takes it so, where this says that nothing was written
abbrev pub MayWant : MemoryUse → Type 0 → Type 0
MayWant Never nothing = ⊥
MayWant BeforeEvents nothing = nothing
MayWant Always nothing = Unit {0}

-- there was no memory to begin with or to go on, and what was written is a first part of the report
pub record HadNoMemory {H L E : Type 0} (r : Reporting H L E) (ended : Ended) (o : Outside) : Type 0 where
  pub place_is : ended.place ≡ 0
  pub takes : MayWant r.memory (Grew o.sink.before o.sink.after [])
  pub wrote : Wrote o (λ input text. BeginsReport r (input_read r.format input) text)

-- what each status says of a run, with its place
abbrev pub EndsAs : {H L E : Type 0} → Reporting H L E → Status → Ended → Outside → Type 0
EndsAs r status.Ok ended o = CameToEnd r ended o
EndsAs r status.Other ended o = CameToEnd r ended o
EndsAs r status.Line ended o = CameToRefused r ended o
EndsAs r status.Read ended o = FailedRead r ended.place o
EndsAs r status.Write ended o = FailedWrite r ended.place o
EndsAs r status.Memory ended o = HadNoMemory r ended o
EndsAs r _ ended o = ⊥

-- a command ran over an input: how it ended, by its status; that it wrote the whole report of the input, unless the
-- source or the sink had a fault or memory was wanted; and what was counted
pub record RanOver {H L E : Type 0} (r : Reporting H L E) (ended : Ended) (o : Outside) : Type 0 where
  pub ends : EndsAs r ended.status ended o
  pub completes : HadNoFault o.source → HadNoFault o.sink → ended.status ≢ status.Memory → WroteReport r ended o
  pub faults : CountsFaults ended.status o
