-- What a reader of lines holds, and what it answers.
use Rattle.std.specs.Prelude.{◌≡◌, ℕ, ◌+◌, ◌≤◌, ◌<◌, Bool, true, false, List, [], ◌∷◌, ◌++◌, length, take, slice_index, IfSome, Some, None, Ok, Err}
use Rattle.std.specs.Io.KnownBytes.{Consumes, IsAtEnd, Keeps}
use Rattle.std.specs.declared.result.Result.{Result}
use Rattle.std.specs.declared.option.Option.{Option}
use Rattle.fsoe_io.specs.Faults.{Rose}
use Rattle.fsoe_io.specs.Line.{IsLine, HasNoNewline}
use Rattle.fsoe_io.specs.declared.line.LineFault.{LineFault}
use Rattle.fsoe_io.specs.declared.line.LineFault.TheVariants.{Read, Long, NoNewline}
use Rattle.fsoe_io.specs.declared.line_reader.Front as front
use Rattle.fsoe_io.specs.declared.line_reader.Front.TheVariants as front_as

-- a line without its newline, and its number from 1
pub record Numbered : Type 0 where
  pub number : ℕ
  pub bytes : List ℕ

-- the bytes that were taken from a source and stand in no line yet, how many lines were given, and the last of these,
-- until the next one is asked for
pub record Held : Type 0 where
  pub bytes : List ℕ
  pub lines : ℕ
  pub line : List ℕ

-- the next line is longer than a line may be
abbrev pub IsTooLong : List ℕ → Type 0
IsTooLong input = (641 ≤ length input) × HasNoNewline (take 641 input)

-- the input ends inside a line
abbrev pub IsUnended : List ℕ → Type 0
IsUnended input = (0 < length input) × (length input ≤ 640) × HasNoNewline input

-- the answer of a reader of lines, where old was to come, where that is known, and new is to come now: a line is taken,
-- or nothing
abbrev pub Reads : Result (Option Numbered) LineFault → Option (List ℕ) → Option (List ℕ) → Type 0
Reads (Ok (Some line)) old new = IsLine line.bytes × Consumes old new (line.bytes ++ 10 ∷ [])
Reads (Ok None) old new = IsAtEnd old × Consumes old new []
Reads (Err Long) old new = IfSome old IsTooLong × Consumes old new []
Reads (Err NoNewline) old new = IfSome old IsUnended × Consumes old new []
Reads (Err Read) old new = Consumes old new []

-- the answer of a reader that took this line, or none
abbrev pub given : Result Bool LineFault → Numbered → Result (Option Numbered) LineFault
given (Ok true) line = Ok (Some line)
given (Ok false) line = Ok None
given (Err fault) line = Err fault

-- the line that a reader gave last, and its number
abbrev pub last_line : Held → Numbered
last_line reader = record { number = reader.lines; bytes = reader.line }

-- where a read failed, what is held is no whole line
abbrev pub Stalls : Result (Option Numbered) LineFault → List ℕ → Type 0
Stalls (Err Read) held = HasNoNewline held
Stalls (Err Long) held = Unit {0}
Stalls (Err NoNewline) held = Unit {0}
Stalls (Ok line) held = Unit {0}

-- lines are numbered in order, and counted
abbrev pub Counts : Result (Option Numbered) LineFault → ℕ → ℕ → Type 0
Counts (Ok (Some line)) old new = (line.number ≡ old + 1) × (new ≡ old + 1)
Counts (Ok None) old new = new ≡ old
Counts (Err fault) old new = new ≡ old

-- only a failed read is blamed on the source
abbrev pub Blames : Result (Option Numbered) LineFault → ℕ → ℕ → Type 0
Blames (Err Read) before now = Rose before now
Blames (Err Long) before now = now ≡ before
Blames (Err NoNewline) before now = now ≡ before
Blames (Ok line) before now = now ≡ before

-- held bytes begin with a line of this length, with more than a line may have, or with neither
abbrev pub BeginsAs : front.Front → List ℕ → Type 0
BeginsAs (front_as.Line len) bytes = (len ≤ 640) × (len < length bytes) × HasNoNewline (take len bytes) × (slice_index bytes len ≡ 10)
BeginsAs front_as.Long bytes = IsTooLong bytes
BeginsAs front_as.Open bytes = IsLine bytes

-- what is held grows by what the source gave
abbrev pub Fills : {E : Type 0} → Result ℕ E → List ℕ → List ℕ → Option (List ℕ) → Option (List ℕ) → Type 0
Fills (Ok n) old new before now = (more : List ℕ) × (new ≡ old ++ more) × (length more ≡ n) × Consumes before now more × (n ≡ 0 → IsAtEnd now)
Fills (Err e) old new before now = (new ≡ old) × Keeps before now
