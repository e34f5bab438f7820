-- Where an input goes no further, and how what is left is written.
use Rattle.std.specs.Prelude.{◌≡◌, ℕ, ◌+◌, ◌<◌, List, length, ◌⊎◌}
use Rattle.std.specs.declared.option.Option.{Option}
use Rattle.std.specs.Io.KnownBytes.{prepend_known}
use Rattle.fsoe_io.specs.Faults.{Rose}
use Rattle.fsoe_io.specs.Line.{HasNoNewline}
use Rattle.fsoe_io.specs.Sink.{Grew}
use Rattle.fsoe_io.specs.declared.status.Ended.{Ended}
use Rattle.fsoe_io.specs.declared.status.Status.TheVariants as status
use Rattle.file_run.specs.Outside.{Told}
use Rattle.file_run.specs.Reporting.{IsPrefix}
use Rattle.file_run.specs.WholeLines.{TookLines}

-- so many whole lines were taken from the source, and of the line after them only a part that was read
abbrev pub ReadLines : ℕ → Option (List ℕ) → Option (List ℕ) → Type 0
ReadLines lines old left = (held : List ℕ) × HasNoNewline held × TookLines lines old (prepend_known held left)

-- the refused line has this number, one more than the whole lines before it
abbrev pub LinesBefore : ℕ → Option (List ℕ) → Type 0
LinesBefore line old = (before : ℕ) × (rest : Option (List ℕ)) × (line ≡ before + 1) × TookLines before old rest

-- so many bytes were appended
abbrev pub Appended : ℕ → Option (List ℕ) → Option (List ℕ) → Type 0
Appended count before now = (text : List ℕ) × Grew before now text × (count ≡ length text)

-- so many bytes were appended, a first part of a text, which is longer
pub record AppendedPart (before now : Option (List ℕ)) (count : ℕ) (whole : List ℕ) : Type 0 where
  pub part : List ℕ
  pub grew : Grew before now part
  pub counts : count ≡ length part
  pub begins : IsPrefix part whole
  pub less : length part < length whole

-- the sink failed after a first part of a text, which is longer; the place is all bytes sent, with so many before it
pub record IsCutOff (sent : ℕ) (text : List ℕ) (result : Ended) (sink : Told) : Type 0 where
  pub part : List ℕ
  pub grew : Grew sink.before sink.after part
  pub begins : IsPrefix part text
  pub less : length part < length text
  pub status_is : result.status ≡ status.Write
  pub place_is : result.place ≡ sent + length part
  pub cause : Rose sink.faults_before sink.faults_after

-- after so many bytes a whole text was written with no fault, and the run ended as it was to; or the sink failed in it
abbrev pub Writes : ℕ → List ℕ → Ended → Ended → Told → Type 0
Writes sent text ended result sink = ((result ≡ ended) × Grew sink.before sink.after text × (sink.faults_after ≡ sink.faults_before)) ⊎ IsCutOff sent text result sink
