-- What a plant that ran wrote: its report, or its journal.
use Rattle.std.specs.Prelude.{◌≤◌, ◌^◌, List, None, take}
use Rattle.black_channel.specs.Told as channel
use Rattle.fsoe_io.specs.declared.status.Ended.{Ended}
use Rattle.file_run.specs.Ending.{Writes}
use Rattle.file_run.specs.Outside.{Outside, Told}
use Rattle.plant_model.specs.declared.journal.JournalStep.{JournalStep}
use Rattle.plant_run.specs.Ran.{RanPlant}
use Rattle.plant_run.specs.Reporting.{Terms}
use Rattle.plant_file.specs.JournalText.{journal_text}
use Rattle.plant_file.specs.Plant.{PlantRun}
use Rattle.plant_file.specs.declared.noted.Wanted.{Wanted}
use Rattle.plant_file.specs.declared.noted.Wanted.TheVariants as wanted

-- what a sink tells that takes all and keeps nothing
abbrev pub untold : Told
untold = record { before = None; after = None; faults_before = 0; faults_after = 0 }

-- a plant ran, its report went nowhere, and its journal was written: its first 2^52 steps, which is more than any
-- memory holds; or a first part of that where a write failed
pub record RanNoted (t : Terms) (ended : Ended) (o : Outside) (before after : channel.ChannelTold) (steps : List JournalStep) : Type 0 where
  pub ends : Ended
  pub ran : RanPlant t ends (record { source = o.source; sink = untold }) before after steps
  pub wrote : Writes 0 (journal_text (take (2 ^ 52) steps)) ends ended o.sink
  pub later : o.sink.faults_before ≤ o.sink.faults_after

-- a plant ran, and what was wanted was written
abbrev pub RanWanted : Wanted → PlantRun
RanWanted wanted.Report = RanPlant
RanWanted wanted.Journal = RanNoted
