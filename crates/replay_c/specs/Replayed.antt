-- What a replay of a text leaves in memory: the report of both ends, or a first part of it where the memory is full.
use Rattle.std.specs.Prelude.{◌≡◌, ℕ, List, length}
use Rattle.fsoe_io.specs.Status.{status_number}
use Rattle.fsoe_io.specs.declared.status.Ended.{Ended}
use Rattle.fsoe_io.specs.declared.status.Status.{Status}
use Rattle.fsoe_io.specs.declared.status.Status.TheVariants as status
use Rattle.schedule_file.specs.Input.{Input, input_of}
use Rattle.schedule_file.specs.declared.header_kind.HeaderKind.TheVariants as header_kind
use Rattle.file_run.specs.Reporting.{CutsReport}
use Rattle.duo_run.specs.Replay.{ReplayReports, replay_reporting}

-- what was written of an input by a run that ended so, by its status: the whole report, with which the run ends so; or
-- a first part of it, whose length is the place, where the report is longer. No other status comes
abbrev pub WrittenWith : Status → Input → Ended → List ℕ → Type 0
WrittenWith status.Ok input ended written = ReplayReports input ended written
WrittenWith status.Other input ended written = ReplayReports input ended written
WrittenWith status.Line input ended written = ReplayReports input ended written
WrittenWith status.Write input ended written = (ended.place ≡ length written) × CutsReport replay_reporting input written
WrittenWith status.Usage input ended written = ⊥
WrittenWith status.Config input ended written = ⊥
WrittenWith status.Desk input ended written = ⊥
WrittenWith status.Read input ended written = ⊥
WrittenWith status.Memory input ended written = ⊥

-- a replay of a text ended so, and this was written
abbrev pub Replayed : List ℕ → Ended → List ℕ → Type 0
Replayed text ended written = WrittenWith ended.status (input_of header_kind.Pair text) ended written

-- a replay of a text, by which this was written, ended with the status of this number and with this place
pub record EndedAs (text : List ℕ) (number place : ℕ) (written : List ℕ) : Type 0 where
  pub ended : Ended
  pub number_is : number ≡ status_number ended.status
  pub place_is : place ≡ ended.place
  pub replayed : Replayed text ended written
