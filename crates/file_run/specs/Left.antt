-- What a run over an input leaves: which events were done, and what was written of them.
use Rattle.std.specs.Prelude.{◌≡◌, ℕ, ◌+◌, ◌≤◌, List, [], ◌∷◌, ◌++◌, length, IfSome, ◌⊎◌, Err}
use Rattle.std.specs.Io.KnownBytes.{prepend_known, Consumes}
use Rattle.std.specs.declared.option.Option.{Option}
use Rattle.fsoe_io.specs.Sink.{most_waiting, Grew}
use Rattle.fsoe_io.specs.declared.status.Ended.{Ended}
use Rattle.fsoe_io.specs.declared.status.Status.{Status}
use Rattle.fsoe_io.specs.declared.status.Status.TheVariants as status
use Rattle.schedule_file.specs.Input.{InputCause, InputFormat, NoApp, NoFrame, Stop, AtEnd, Refused, input_read, NoLine, header_read}
use Rattle.file_run.specs.Ending.{AppendedPart, Writes}
use Rattle.file_run.specs.Outside.{Outside}
use Rattle.file_run.specs.Report.{refused_line}
use Rattle.file_run.specs.Reporting.{IsPrefix, Reporting, ReportsSoFar, TakesMemory, input_stopped}
use Rattle.file_run.specs.Stop.{halted_by, last_of}
use Rattle.file_run.specs.declared.halt.Halt.{Halt}
use Rattle.file_run.specs.Refusal.{input_cause}
use Rattle.file_run.specs.declared.halt.Halt.TheVariants as halt

-- what a machine did: the events, after a header of so many lines, and their whole text
pub record Done (H E : Type 0) : Type 0 where
  pub heading : H
  pub lines : ℕ
  pub log : List E
  pub text : List ℕ

-- an input that is told has this header, and these are its first events
abbrev pub IsBegun : {H L E : Type 0} → InputFormat H L E → Done H E → Option (List ℕ) → Type 0
IsBegun {H} {L} {E} f d told = IfSome told (λ input. (more : List E) × (stop : Stop) × (input_read f input ≡ input_stopped d.heading d.lines (d.log ++ more) stop))

-- these are all of its events, and it stops by `end`
abbrev pub IsWhole : {H L E : Type 0} → InputFormat H L E → Done H E → Option (List ℕ) → Type 0
IsWhole f d told = IfSome told (λ input. input_read f input ≡ input_stopped d.heading d.lines d.log AtEnd)

-- the number of the line after these events
abbrev pub line_after : {H E : Type 0} → Done H E → ℕ
line_after d = d.lines + length d.log + 1

-- all events were done, and the whole report was written
pub record LeavesAll {H L E : Type 0} (f : InputFormat H L E) (closes : H → List E → List ℕ → Ended → Type 0) (d : Done H E) (ended : Ended) (o : Outside) : Type 0 where
  pub input : IsWhole f d o.source.before
  pub report : List ℕ
  pub closed : closes d.heading d.log report ended
  pub wrote : Grew o.sink.before o.sink.after report

-- for these causes a line is refused that is right by itself: the run so far hasn't what it names
abbrev pub IsUnmet : InputCause → Type 0
IsUnmet why = (why ≡ NoFrame) ⊎ (why ≡ NoApp)

-- the line after these events is refused for this cause: the input stops there by itself, or has an event there that
-- isn't met
abbrev pub StopsAfter : {H L E : Type 0} → InputFormat H L E → Done H E → InputCause → Option (List ℕ) → Type 0
StopsAfter {H} {L} {E} f d why told =
    IfSome told (λ input.
    (input_read f input ≡ input_stopped d.heading d.lines d.log (Refused (line_after d) why))
    ⊎ ((event : E) × (more : List E) × (stop : Stop) × (input_read f input ≡ input_stopped d.heading d.lines ((d.log ++ event ∷ []) ++ more) stop) × IsUnmet why))

-- the events of all lines before a refused one were done, and their text and its line were written
pub record LeavesRefused {H L E : Type 0} (f : InputFormat H L E) (d : Done H E) (number : ℕ) (o : Outside) : Type 0 where
  pub why : InputCause
  pub stops : StopsAfter f d why o.source.before
  pub number_is : number ≡ line_after d
  pub wrote : Grew o.sink.before o.sink.after (d.text ++ refused_line number why)

-- the events of so many whole lines were done, and their text was written
pub record LeavesLines {H E : Type 0} (d : Done H E) (lines : ℕ) (o : Outside) : Type 0 where
  pub lines_are : lines ≡ d.lines + length d.log
  pub wrote : Grew o.sink.before o.sink.after d.text

-- a write may fail in the text of the events, in the line of a refusal after it, or, where all events were done, in the
-- whole report
abbrev pub MayFailIn : {H L E : Type 0} → InputFormat H L E → (H → List E → List ℕ → Ended → Type 0) → Done H E → List ℕ → Option (List ℕ) → Type 0
MayFailIn f closes d whole told =
    (whole ≡ d.text)
    ⊎ (((why : InputCause) × (whole ≡ d.text ++ refused_line (line_after d) why) × StopsAfter f d why told)
    ⊎ ((ended : Ended) × closes d.heading d.log whole ended × IsWhole f d told))

-- of the events that were done one at most is ahead: those before it may have this text, a first part of the text of
-- all, and it is no longer than the bytes that were written and what may have waited then
pub record IsOneAhead {H L E : Type 0} (r : Reporting H L E) (d : Done H E) (bytes : ℕ) : Type 0 where
  pub before : List E
  pub ahead : List E
  pub are : d.log ≡ before ++ ahead
  pub one : length ahead ≤ 1
  pub text : List ℕ
  pub reported : ReportsSoFar r d.heading before text
  pub begins : IsPrefix text d.text
  pub few : length text ≤ bytes + most_waiting

-- a write failed after so many bytes of a text that was to be written, and one event at most is ahead of what was
-- written and waited. An event that writes nothing leaves both as they are: whether it was done before that write or
-- after it isn't said
pub record LeavesUnwritten {H L E : Type 0} (r : Reporting H L E) (closes : H → List E → List ℕ → Ended → Type 0) (d : Done H E) (bytes : ℕ) (o : Outside) : Type 0 where
  pub whole : List ℕ
  pub within : MayFailIn r.format closes d whole o.source.before
  pub wrote : AppendedPart o.sink.before o.sink.after bytes whole
  pub last : IsOneAhead r d bytes

-- what was done and written, by how the run ended
abbrev pub LeavesAs : {H L E : Type 0} → Reporting H L E → (H → List E → List ℕ → Ended → Type 0) → Done H E → Status → Ended → Outside → Type 0
LeavesAs r closes d status.Ok ended o = LeavesAll r.format closes d ended o
LeavesAs r closes d status.Other ended o = LeavesAll r.format closes d ended o
LeavesAs r closes d status.Line ended o = LeavesRefused r.format d ended.place o
LeavesAs r closes d status.Read ended o = LeavesLines d ended.place o
LeavesAs r closes d status.Write ended o = LeavesUnwritten r closes d ended.place o
LeavesAs r closes d status.Memory ended o = Grew o.sink.before o.sink.after d.text
LeavesAs r closes d _ ended o = ⊥

-- the bytes that were taken are so many lines of a header, and no line comes after them
pub record IsHeaderCutOff {H L E : Type 0} (f : InputFormat H L E) (lines : ℕ) (old : Option (List ℕ)) (new : Option (List ℕ)) : Type 0 where
  pub taken : List ℕ
  pub goes : Consumes old new taken
  pub says : header_read f taken ≡ Err (Refused (lines + 1) NoLine)

-- a header goes no further: a read failed, a line is refused, or there is no memory for it, which may be where this
-- holds
abbrev pub HaltsHeader : {H L E : Type 0} → InputFormat H L E → Type 0 → Halt → Option (List ℕ) → Option (List ℕ) → Type 0
HaltsHeader f wants (halt.Read count) old new = IsHeaderCutOff f count old new
HaltsHeader f wants halt.Memory old new = wants
HaltsHeader f wants (halt.Refused number why) old new = IfSome old (λ input. header_read f input ≡ Err (Refused number (input_cause why)))

-- no machine was begun: the header goes no further, or there was no memory where this may be, and no more was to be
-- written than the line of its refusal
pub record LeavesUnbegun {H L E : Type 0} (r : Reporting H L E) (ended : Ended) (o : Outside) : Type 0 where
  pub why : Halt
  pub held : List ℕ
  pub header : HaltsHeader r.format (TakesMemory r.memory) why o.source.before (prepend_known held o.source.after)
  pub writes : Writes 0 (last_of why) (halted_by why) ended o.sink
