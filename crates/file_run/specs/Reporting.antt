-- What a command reports of its inputs. H is what a header says, L what a line after it says, and E an event.
use Rattle.std.specs.Prelude.{◌≡◌, ℕ, ◌<◌, Bool, List, ◌++◌, length, Some}
use Rattle.fsoe_io.specs.declared.status.Ended.{Ended}
use Rattle.fsoe_io.specs.declared.status.Status.TheVariants as status
use Rattle.schedule_file.specs.Input.{InputCause, InputFormat, Stop, AtEnd, Refused, InputOf}
use Rattle.file_run.specs.Report.{refused_line}

-- when a command takes memory: never, before its first event alone, or for its events too
pub data MemoryUse : Type 0 where
  Never : MemoryUse
  BeforeEvents : MemoryUse
  Always : MemoryUse

-- it takes memory
abbrev pub TakesMemory : MemoryUse → Type 0
TakesMemory Never = ⊥
TakesMemory BeforeEvents = Unit {0}
TakesMemory Always = Unit {0}

-- how its inputs are read; whether it looks for other entries; when it takes memory; and which text is the whole report
-- of an input, with how a run that writes it ends
pub record Reporting (H L E : Type 0) : Type 1 where
  pub format : InputFormat H L E
  pub judges : Bool
  pub memory : MemoryUse
  pub reports : InputOf H E → Ended → List ℕ → Type 0

-- the second list begins with the first
abbrev pub IsPrefix : List ℕ → List ℕ → Type 0
IsPrefix part whole = (rest : List ℕ) × (whole ≡ part ++ rest)

-- a text is a first part of the report
abbrev pub BeginsReport : {H L E : Type 0} → Reporting H L E → InputOf H E → List ℕ → Type 0
BeginsReport r input text = (report : List ℕ) × (ended : Ended) × r.reports input ended report × IsPrefix text report

-- a text is a first part of the report, which is longer
abbrev pub CutsReport : {H L E : Type 0} → Reporting H L E → InputOf H E → List ℕ → Type 0
CutsReport r input text = (report : List ℕ) × (ended : Ended) × r.reports input ended report × IsPrefix text report × (length text < length report)

-- how a run ends at a refused line
abbrev pub refused_at : ℕ → Ended
refused_at number = record { status = status.Line; place = number }

-- how a run ends whose input stops so, where neither a read nor a write failed and the command judges nothing
abbrev pub ended_at : Stop → Ended
ended_at AtEnd = record { status = status.Ok; place = 0 }
ended_at (Refused number why) = refused_at number

-- an input whose header has so many lines, and which stops after these events
abbrev pub input_stopped : {H E : Type 0} → H → ℕ → List E → Stop → InputOf H E
input_stopped h lines log stop = record { heading = Some h; lines = lines; events = log; stop = stop }

-- a text was written of these events: it begins the report of each input whose events begin so, and with the line of a
-- refusal it is the whole report of an input that is refused after them
pub record ReportsSoFar {H L E : Type 0} (r : Reporting H L E) (h : H) (log : List E) (text : List ℕ) : Type 0 where
  pub begins : (lines : ℕ) (more : List E) (stop : Stop) → BeginsReport r (input_stopped h lines (log ++ more) stop) text
  pub refused : (lines number : ℕ) (why : InputCause) → r.reports (input_stopped h lines log (Refused number why)) (refused_at number) (text ++ refused_line number why)
