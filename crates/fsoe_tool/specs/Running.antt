-- What each command does.
use Rattle.std.specs.Prelude.{◌≤◌, Option, None, Some, Bool, true, false}
use Rattle.fsoe_io.specs.declared.status.Ended.{Ended}
use Rattle.fsoe_io.specs.declared.status.Status.TheVariants as status
use Rattle.file_run.specs.Ending.{Writes}
use Rattle.file_run.specs.Outside.{Outside, Told}
use Rattle.duo_run.specs.Bulk.{RanBulk}
use Rattle.pair_convert.specs.Convert.{RanConvert}
use Rattle.duo_run.specs.Version.{RanReplay}
use Rattle.node_runner.specs.Ran.{RanNode}
use Rattle.process_image.specs.Ran.{RanImage}
use Rattle.trace_diag.specs.Ran.{RanDiagnose}
use Rattle.fsoe_tool.specs.Command.{usage_line}
use Rattle.plant_file.specs.Handed.{DeskTold, Handed}
use Rattle.plant_file.specs.Plant.{RanFile}
use Rattle.plant_run.specs.Ran.{RanPlant}
use Rattle.fsoe_tool.specs.declared.command.Command.{Command}
use Rattle.fsoe_tool.specs.declared.command.Command.TheVariants as tool
use Rattle.fsoe_tool.specs.declared.run.Outcome.{Outcome}

-- how a run ended that left this
abbrev pub ended_of : Outcome → Ended
ended_of outcome = record { status = outcome.status; place = outcome.place }

-- whether what the words name reads an input: all but the schedule of a number do
abbrev pub reads_input : Option Command → Bool
reads_input None = false
reads_input (Some (tool.Node end)) = true
reads_input (Some tool.Replay) = true
reads_input (Some (tool.Bulk number events)) = false
reads_input (Some tool.Image) = true
reads_input (Some tool.Diagnose) = true
reads_input (Some tool.Convert) = true
reads_input (Some tool.Plant) = true

-- whether the words name a plant, which alone has to do with the desk, the applications, the channels and the journal
abbrev pub runs_plant : Option Command → Bool
runs_plant (Some tool.Plant) = true
runs_plant said = false

-- the usage line was written, with status 2; or a first part of it, where a write failed
pub record RanUsage (ended : Ended) (sink : Told) : Type 0 where
  pub wrote : Writes 0 usage_line (record { status = status.Usage; place = 0 }) ended sink
  pub later : sink.faults_before ≤ sink.faults_after

-- what holds of the run of what the words name: of a command all that its own call says
abbrev pub Runs : {C S : Type 0} → Option Command → Ended → Outside → DeskTold → Handed C S → Type 0
Runs None ended o desk h = RanUsage ended o.sink
Runs (Some (tool.Node end)) ended o desk h = RanNode end ended o
Runs (Some tool.Replay) ended o desk h = RanReplay ended o
Runs (Some (tool.Bulk number events)) ended o desk h = RanBulk number events ended o.sink
Runs (Some tool.Image) ended o desk h = RanImage ended o
Runs (Some tool.Diagnose) ended o desk h = RanDiagnose ended o
Runs (Some tool.Convert) ended o desk h = RanConvert ended o
Runs (Some tool.Plant) ended o desk h = RanFile RanPlant ended o desk h
