-- The next line of an input, or why the input goes no further.
use Rattle.std.specs.Prelude.{◌≡◌, ℕ, ◌+◌, List, [], ◌≤◌}
use Rattle.std.specs.declared.option.Option.{Option}
use Rattle.std.specs.declared.result.Result.{Result}
use Rattle.std.specs.declared.result.Result.TheVariants.{Ok, Err}
use Rattle.std.specs.Io.KnownBytes.{Consumes}
use Rattle.fsoe_io.specs.Faults.{Rose}
use Rattle.fsoe_io.specs.Line.{HasNoNewline}
use Rattle.file_run.specs.WholeLines.{ReadsUpTo, TookLines}
use Rattle.file_run.specs.declared.halt.Halt.{Halt}
use Rattle.file_run.specs.declared.halt.Halt.TheVariants as halt
use Rattle.file_run.specs.Ending.{ReadLines, LinesBefore}

-- where a read failed, what is held is no whole line
abbrev pub Stalls : {T : Type 0} → Result T Halt → List ℕ → Type 0
Stalls (Ok says) held = Unit {0}
Stalls (Err (halt.Read lines)) held = HasNoNewline held
Stalls (Err halt.Memory) held = Unit {0}
Stalls (Err (halt.Refused line cause)) held = Unit {0}

-- only a failed read is blamed on the source
abbrev pub Blames : {T : Type 0} → Result T Halt → ℕ → ℕ → Type 0
Blames (Ok says) before now = now ≡ before
Blames (Err (halt.Read lines)) before now = Rose before now
Blames (Err halt.Memory) before now = now ≡ before
Blames (Err (halt.Refused line cause)) before now = now ≡ before

-- why the input goes no further, and after which lines
abbrev pub Halts : {T : Type 0} → Result T Halt → Option (List ℕ) → Option (List ℕ) → Type 0
Halts (Ok x) old left = Unit {0}
Halts (Err (halt.Read lines)) old left = ReadLines lines old left
Halts (Err halt.Memory) old left = Unit {0}
Halts (Err (halt.Refused line cause)) old left = LinesBefore line old × ReadsUpTo line old left

-- a whole line was taken, or nothing
abbrev pub TookOneAtMost : Option (List ℕ) → Option (List ℕ) → Type 0
TookOneAtMost old new = (lines : ℕ) × (lines ≤ 1) × TookLines lines old new

-- one line more was taken; a refused line is the one after those before, and was taken or nothing was; a failed read
-- took nothing
abbrev pub Goes : {T : Type 0} → Result T Halt → ℕ → ℕ → Option (List ℕ) → Option (List ℕ) → Type 0
Goes (Ok says) before lines old new = lines ≡ before + 1
Goes (Err (halt.Read count)) before lines old new = (count ≡ before) × Consumes old new []
Goes (Err halt.Memory) before lines old new = Unit {0}
Goes (Err (halt.Refused line cause)) before lines old new = (line ≡ before + 1) × TookOneAtMost old new
