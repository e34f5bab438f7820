-- How a run of a plant over its script ended, what it wrote, and what its channel and its journal tell. Acts are
-- listed newest first, steps and the lines of a script oldest first.
use Rattle.std.specs.Prelude.{◌≡◌, ◌⊎◌, List, [], length, ℕ}
use Rattle.fsoe_io.specs.declared.status.Ended.{Ended}
use Rattle.black_channel.specs.Told as channel
use Rattle.schedule_file.specs.Input.{AtEnd}
use Rattle.file_run.specs.Left.{Done, IsBegun, LeavesAs, LeavesUnbegun}
use Rattle.file_run.specs.Outside.{Outside}
use Rattle.file_run.specs.Ran.{RanOver}
use Rattle.plant_model.specs.Acts.{Act, journal, uses}
use Rattle.plant_model.specs.Bound.{Reacts}
use Rattle.plant_model.specs.Broken.{BrokenByOther}
use Rattle.plant_model.specs.BoundLines.{bound_lines}
use Rattle.plant_model.specs.FairPairs.{PairsAreFair}
use Rattle.plant_model.specs.PlantReport.{report_end, report_text, ticks_text}
use Rattle.plant_model.specs.Promises.{AllSound}
use Rattle.plant_run.specs.Reporting.{Terms, plant_reporting}
use Rattle.plant_run.specs.Script.{ScriptHeading}
use Rattle.plant_model.specs.Past.{MayHaveDone, said, said_in}
use Rattle.plant_model.specs.Uses.{Trace}
use Rattle.plant_model.specs.declared.event.PlantLine.{PlantLine}
use Rattle.plant_model.specs.declared.journal.JournalStep.{JournalStep}

-- this is the whole report of a plant with these acts and this journal, and a run that writes it ends so
abbrev pub IsReportOf : Terms → List Act → List JournalStep → ScriptHeading → List PlantLine → List ℕ → Ended → Type 0
IsReportOf t acts steps h log text ended =
    (text ≡ report_text t.begins.links steps (bound_lines t.begins acts t.bounds) AtEnd) × (ended ≡ report_end t.begins.links steps AtEnd)

-- these acts were done, at the first lines after the script's title; what was written is the report of the journal as
-- far as the run came; the answer of each act that ran a cycle is sound; and drives react in time, so that a bound is
-- broken only where a pair has an other entry
pub record DidLines (t : Terms) (acts : List Act) (steps : List JournalStep) (ended : Ended) (o : Outside) : Type 0 where
  pub may : MayHaveDone t.begins.links acts
  pub done : Done ScriptHeading PlantLine
  pub said_are : said_in acts ≡ said t.spare done.log
  pub whole : length (said_in acts) ≡ length done.log
  pub sound : AllSound t.begins acts
  pub reacts : Reacts t.begins acts
  pub broken : BrokenByOther t.begins acts
  pub text_is : done.text ≡ ticks_text t.begins.links steps
  pub begun : IsBegun (plant_reporting t).format done o.source.before
  pub ends : LeavesAs (plant_reporting t) (IsReportOf t acts steps) done ended.status ended o

-- no plant began: the script's first line didn't come or is refused, or there was no memory to begin with. No more was
-- to be written than the line of that refusal
pub record DidNothing (t : Terms) (acts : List Act) (ended : Ended) (o : Outside) : Type 0 where
  pub none : acts ≡ []
  pub left : LeavesUnbegun (plant_reporting t) ended o

-- a plant ran over a script, and reported it. `run` alone doesn't say what its ends did, since a channel may give
-- anything. `acts` says it: they stand in its journal, in what its channel tells, and in what was written; and its
-- pairs are fair
pub record RanPlant (t : Terms) (ended : Ended) (o : Outside) (before after : channel.ChannelTold) (steps : List JournalStep) : Type 0 where
  pub run : RanOver (plant_reporting t) ended o
  pub acts : List Act
  pub did : DidNothing t acts ended o ⊎ DidLines t acts steps ended o
  pub journal_is : steps ≡ journal t.begins acts
  pub channel : Trace (uses t.begins acts) before after
  pub fair : PairsAreFair t.begins.links steps
