-- The words that name the command of the program, and what it does.
use Rattle.std.specs.Prelude.{ℕ, ◌+◌, nat_le, List, [], ◌∷◌, Bool, true, false, bytes_eq, codes, Option, Some, None, if◌then◌else◌}
use Rattle.fsoe_io.specs.declared.status.Ended.{Ended}
use Rattle.fsoe_io.specs.declared.status.Status.TheVariants as status
use Rattle.build_text.specs.declared.text.TheConstants.{BUILD}
use Rattle.file_run.specs.Outside.{Outside}
use Rattle.plant_file.specs.Handed.{DeskTold, Handed}
use Rattle.plant_file.specs.Noted.{RanWanted}
use Rattle.plant_file.specs.Plant.{RanFile, WroteLine}
use Rattle.plant_file.specs.declared.noted.Wanted.{Wanted}
use Rattle.plant_file.specs.declared.noted.Wanted.TheVariants as wanted
use Rattle.rate_channel.specs.declared.rate_channel.Rates.{Rates}
use Rattle.schedule_file.specs.Field.{number_said, word_in}
use Rattle.fsoe_lab.specs.Counts.{counts_text}
use Rattle.fsoe_lab.specs.declared.command.Trial.{Trial}

-- numbers that are at most 10,000 together
abbrev pub rates_of : Option ℕ → Option ℕ → Option ℕ → Option ℕ → Option Rates
rates_of (Some lose) (Some alter) (Some repeat) (Some late) =
    if nat_le (lose + alter + repeat + late) 10000 then Some (record { lose = lose; alter = alter; repeat = repeat; late = late }) else None
rates_of lose alter repeat late = None

-- the rates that words name: four, or none, where all are 0
abbrev pub rates_said : List (List ℕ) → Option Rates
rates_said [] = Some (record { lose = 0; alter = 0; repeat = 0; late = 0 })
rates_said (lose ∷ alter ∷ repeat ∷ late ∷ []) =
    rates_of (number_said 10000 lose) (number_said 10000 alter) (number_said 10000 repeat) (number_said 10000 late)
rates_said words = None

abbrev pub wanted_by : List ℕ → Option Wanted
wanted_by = word_in ((codes "journal", wanted.Journal) ∷ (codes "rates", wanted.Report) ∷ [])

abbrev pub trial_of : Option Wanted → Option Rates → Option Trial
trial_of (Some wanted) (Some rates) = Some (record { wanted = wanted; rates = rates })
trial_of wanted rates = None

-- what words name: `journal` or `rates`, a file, and rates
abbrev pub trial_said : List (List ℕ) → Option Trial
trial_said (word ∷ file ∷ rates) = trial_of (wanted_by word) (rates_said rates)
trial_said words = None

-- the file that words name: the second of them
abbrev pub file_named : List (List ℕ) → List ℕ
file_named (word ∷ file ∷ words) = file
file_named words = []

-- the line that is written where the words name nothing
abbrev pub usage_line : List ℕ
usage_line = codes "usage: fsoe_lab build|crc, journal|rates <file> [<lose> <alter> <repeat> <late>]\n"

-- whether they ask for the counts of the changes of data
abbrev pub counts_asked : List (List ℕ) → Bool
counts_asked (word ∷ []) = bytes_eq word (codes "crc")
counts_asked words = false

-- whether they ask what the program was made of
abbrev pub build_asked : List (List ℕ) → Bool
build_asked (word ∷ []) = bytes_eq word (codes "build")
build_asked words = false

-- the text that they ask for
abbrev pub text_asked : List (List ℕ) → Option (List ℕ)
text_asked words = if build_asked words then Some BUILD else (if counts_asked words then Some counts_text else None)

-- what holds of the run of what the words name: a text was written, or a plant ran by the file; without either the usage
-- line was written
abbrev pub Runs : {C S : Type 0} → Option (List ℕ) → Option Trial → Ended → Outside → DeskTold → Handed C S → Type 0
Runs (Some text) trial ended o desk h = WroteLine text status.Ok ended o h
Runs None None ended o desk h = WroteLine usage_line status.Usage ended o h
Runs None (Some trial) ended o desk h = RanFile (RanWanted trial.wanted) ended o desk h
