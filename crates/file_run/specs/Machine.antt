-- How the lines of an input are read, and what a machine does that runs over its events. H is what a header says, L what
-- a line after it says, and E an event.
use Rattle.std.specs.Prelude.{◌≡◌, ℕ, ◌+◌, ◌≤◌, List, [], ◌∷◌, ◌++◌, length, Bool, IsTrue, Result, Ok, Err, Some, None}
use Rattle.schedule_file.specs.Input.{InputFormat, NoApp, AtEnd, NoFrame, InputOf, InputCause, Stop}
use Rattle.schedule_file.specs.Limits.{max_events}
use Rattle.schedule_file.specs.declared.line_cause.LineCause.{LineCause}
use Rattle.file_run.specs.declared.stopped.Stopped.TheVariants as stopped
use Rattle.file_run.specs.Report.{refused_line}
use Rattle.file_run.specs.declared.stopped.Stopped.{Stopped}
use Rattle.file_run.specs.Reporting.{Reporting, refused_at, Always, input_stopped}
use Rattle.fsoe_io.specs.declared.status.Ended.{Ended}

-- a header takes its next line as this says, and tells whether it is done
abbrev pub TakesLine : {H : Type 0} → (H → Bool) → Result Bool LineCause → H → Result H LineCause → Type 0
TakesLine is_whole (Ok done) new said = (said ≡ Ok new) × (done ≡ is_whole new)
TakesLine is_whole (Err why) new said = said ≡ Err why

-- what was read and written over `said`, or why nothing was
abbrev pub what_says : {L C : Type 0} → Result (Unit {0}) C → L → Result L C
what_says (Ok read) said = Ok said
what_says (Err why) said = Err why

-- a line after a header says this event
abbrev pub IsSaid : {H L E : Type 0} → InputFormat H L E → H → E → Type 0
IsSaid {H} {L} {E} f h event = (text : List ℕ) × (line : L) × (f.line h text ≡ Ok line) × (f.event line ≡ Some event)

-- an event with this number, from 1, may come to a machine that stands so
pub record MayCome {H L E : Type 0} (old : H → List E → List ℕ → Type 0) (f : InputFormat H L E) (event : E) (number : ℕ) : Type 0 where
  pub heading : H
  pub log : List E
  pub text : List ℕ
  pub stands : old heading log text
  pub said : IsSaid f heading event
  pub number_is : number ≡ length log + 1
  pub few : number ≤ max_events

-- no header has more lines: one of 64 ends with 512 application bytes each has fewer
abbrev pub most_lines : ℕ
most_lines = 1048576

-- neither an event nor the end has more parts to write than this after the first part of its text
abbrev pub most_parts : ℕ
most_parts = 1048576

-- a machine stands for some events
abbrev pub IsStanding : {H E : Type 0} → (H → List E → List ℕ → Type 0) → Type 0
IsStanding {H} {E} stands = (h : H) × (log : List E) × (text : List ℕ) × stands h log text

-- what a machine stood for it stands for still
abbrev pub StandsAsBefore : {H E : Type 0} → (H → List E → List ℕ → Type 0) → (H → List E → List ℕ → Type 0) → Type 0
StandsAsBefore {H} {E} old new = (h : H) (log : List E) (text : List ℕ) → old h log text → new h log text

-- a machine that stood for some events stands, after the event of this number, for these and it, with this text more
pub record TakesEvent {H E : Type 0} (old new : H → List E → List ℕ → Type 0) (event : E) (number : ℕ) (piece : List ℕ) : Type 0 where
  pub takes : (h : H) (log : List E) (text : List ℕ) → number ≡ length log + 1 → old h log text → new h (log ++ event ∷ []) (text ++ piece)

-- an input without a whole header
abbrev pub input_headless : {H E : Type 0} → Stop → InputOf H E
input_headless stop = record { heading = None; lines = 0; events = []; stop = stop }

-- the run so far hasn't what the event after these names: whatever comes after it, the report ends at its line for this
-- cause
abbrev pub EndsUnmet : {H L E : Type 0} → Reporting H L E → H → List E → List ℕ → E → InputCause → Type 0
EndsUnmet {H} {L} {E} r h log text event why =
    (lines : ℕ) (more : List E) (stop : Stop)
    → r.reports (input_stopped h lines ((log ++ event ∷ []) ++ more) stop) (refused_at (lines + length log + 1)) (text ++ refused_line (lines + length log + 1) why)

-- the event after these isn't done: the run so far hasn't what it names, or there is no memory for it
abbrev pub EndsStopped : {H L E : Type 0} → Reporting H L E → H → List E → List ℕ → E → Stopped → Type 0
EndsStopped r h log text event stopped.NoFrame = EndsUnmet r h log text event NoFrame
EndsStopped r h log text event stopped.NoApp = EndsUnmet r h log text event NoApp
EndsStopped r h log text event stopped.Memory = r.memory ≡ Always

-- this is the whole report of an input that stops by `end` after these events, and the run ends so
abbrev pub EndsReport : {H L E : Type 0} → Reporting H L E → H → List E → List ℕ → Ended → Type 0
EndsReport r h log text ended = (lines : ℕ) → r.reports (input_stopped h lines log AtEnd) ended text
