-- What a plant reports of its script. Acts are listed newest first, the lines of a script oldest first.
use Rattle.std.specs.Prelude.{◌≡◌, ℕ, ◌+◌, ◌==◌, true, List, [], length, map, Option, Some, None, if◌then◌else◌}
use Rattle.fsoe_io.specs.declared.status.Ended.{Ended}
use Rattle.schedule_file.specs.Input.{NoApp, Stop, Refused}
use Rattle.file_run.specs.Reporting.{Always, Reporting}
use Rattle.plant_conf.specs.declared.conf.BoundSpec.{BoundSpec}
use Rattle.plant_model.specs.Acts.{Beginning, Act, journal}
use Rattle.plant_model.specs.BoundLines.{bound_lines}
use Rattle.plant_model.specs.Fits.{lengths_in}
use Rattle.plant_model.specs.PlantReport.{report_end, report_text}
use Rattle.plant_run.specs.Script.{Script, ScriptHeading, script_format}
use Rattle.plant_model.specs.Past.{IsPast, Named, said, said_in}
use Rattle.plant_model.specs.declared.event.PlantLine.{PlantLine}
use Rattle.plant_model.specs.declared.journal.JournalStep.{JournalStep}

-- what a plant is run with: what it begins with, the bounds that it watches, and the applications that its script may
-- take
pub record Terms : Type 0 where
  pub begins : Beginning
  pub bounds : List BoundSpec
  pub spare : List Named

-- the journal of these acts; without a whole header the plant hasn't begun
abbrev pub journal_after : Beginning → Option ScriptHeading → List Act → List JournalStep
journal_after b None acts = []
journal_after b (Some h) acts = journal b acts

-- how a run stops in which so many lines happened: as the script does, where all did; else at the first for an
-- application that isn't left
abbrev pub script_stop : ℕ → Script → Stop
script_stop happened script = if happened == length script.events then script.stop else Refused (script.lines + happened + 1) NoApp

-- a whole report of a plant over a script, whatever its channel may have given, and how a run that writes it ends; what
-- a run promises of its report is `IsReportOf`
abbrev pub PlantReports : Terms → Script → Ended → List ℕ → Type 0
PlantReports t script ended text =
    (acts : List Act) × IsPast 0 acts × (said_in acts ≡ said t.spare script.events)
    × (text ≡ report_text t.begins.links (journal_after t.begins script.heading acts) (bound_lines t.begins acts t.bounds) (script_stop (length (said_in acts)) script))
    × (ended ≡ report_end t.begins.links (journal_after t.begins script.heading acts) (script_stop (length (said_in acts)) script))

-- what a plant reports; it takes memory for its events too
abbrev pub plant_reporting : Terms → Reporting ScriptHeading PlantLine PlantLine
plant_reporting t = record { format = script_format (map lengths_in t.begins.links); judges = true; memory = Always; reports = PlantReports t }
