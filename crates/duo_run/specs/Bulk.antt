-- What `bulk` reports of the schedule of a number. Lists of entries are newest first.
use Rattle.std.specs.Prelude.{◌≡◌, ◌≤◌, ℕ, List, ◌++◌, length, codes, decimal}
use Rattle.fsoe_base.specs.Command.{state_name}
use Rattle.fsoe_base.specs.declared.command.State.{State}
use Rattle.fsoe_io.specs.declared.status.Ended.{Ended}
use Rattle.param_load.specs.declared.entry.Entry.{Entry}
use Rattle.schedule_file.specs.Made.{made, made_lengths, made_master, made_slave}
use Rattle.file_run.specs.Ending.{Writes}
use Rattle.file_run.specs.Outside.{Told}
use Rattle.exchange_model.specs.Fair.{Fair}
use Rattle.exchange_model.specs.Other.{before_other, first_other}
use Rattle.exchange_model.specs.Serving.{Serves}
use Rattle.exchange_model.specs.World.{world}
use Rattle.file_run.specs.Report.{ended_with, other_line}
use Rattle.duo_run.specs.Summary.{summary_of}
use Rattle.duo_run.specs.declared.summary.Summary.{Summary}

-- the entries of both ends over the first so many events of a number
abbrev pub bulk_entries : ℕ → ℕ → List Entry
bulk_entries number events = world made_master made_slave (made number events)

-- a line that tells a number of each end
abbrev pub ends_line : List ℕ → ℕ → ℕ → List ℕ
ends_line word master slave = word ++ codes " master " ++ decimal master ++ codes " slave " ++ decimal slave ++ codes "\n"

-- the line that tells the state of each end
abbrev pub state_line : State → State → List ℕ
state_line master slave = codes "state " ++ state_name master ++ codes " " ++ state_name slave ++ codes "\n"

-- the first line: the number, and how many of its events
abbrev pub number_line : ℕ → ℕ → List ℕ
number_line number events = codes "bulk " ++ decimal number ++ codes " " ++ decimal events ++ codes "\n"

-- the lines of a summary: the data frames taken, the entries with a reset and those with a dropped frame, and the
-- states told last
abbrev pub summary_lines : Summary → List ℕ
summary_lines s =
    ends_line (codes "data") s.master.taken s.slave.taken
    ++ ends_line (codes "resets") s.master.resets s.slave.resets
    ++ ends_line (codes "drops") s.master.drops s.slave.drops
    ++ state_line s.master.state s.slave.state

-- the whole report of these entries over the first so many events of a number
abbrev pub report_of : ℕ → ℕ → List Entry → List ℕ
report_of number events w = number_line number events ++ summary_lines (summary_of w) ++ other_line (first_other w)

-- the first so many events of a number were run: the whole report was written, and the run ended as its first other
-- entry says, or a write failed; each event has its entry, and the law of the pair holds of them; those of number 0
-- serve
pub record RanBulk (number events : ℕ) (ended : Ended) (sink : Told) : Type 0 where
  pub wrote : Writes 0 (report_of number events (bulk_entries number events)) (ended_with (first_other (bulk_entries number events))) ended sink
  pub whole : length (bulk_entries number events) ≡ events
  pub fair : Fair made_lengths (before_other (bulk_entries number events))
  pub serves : number ≡ 0 → Serves made_master (made number events) (bulk_entries number events)
  pub later : sink.faults_before ≤ sink.faults_after
