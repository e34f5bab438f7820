-- The next line of an input.
use Rattle.std.specs.Prelude.{◌≡◌, ℕ, List, [], ◌∷◌, ◌++◌, Result, Ok, Err, IfSome}
use Rattle.std.specs.declared.option.Option.{Option}
use Rattle.std.specs.Io.KnownBytes.{Consumes, prepend_known}
use Rattle.fsoe_io.specs.Line.{IsLine}
use Rattle.fsoe_io.specs.LineReader.{Held}
use Rattle.schedule_file.specs.Input.{lines_of}
use Rattle.file_run.specs.Refusal.{input_cause}
use Rattle.file_run.specs.declared.halt.Halt.{Halt}
use Rattle.file_run.specs.declared.halt.Halt.TheVariants as halt
use Rattle.file_run.specs.ByTitle.{first_line}

-- the line that a reader lends was taken, with its newline, from what was to come: what is held behind it, and what the
-- source has left, come now
abbrev pub IsLent : Option (List ℕ) → Held → Option (List ℕ) → Type 0
IsLent input reader left = Consumes input (prepend_known reader.bytes left) (reader.line ++ 10 ∷ [])

-- the next line has these bytes, or there is none for this cause
abbrev pub FindsLine : Result (Unit {0}) Halt → List ℕ → Option (List ℕ) → Option (List ℕ) → Type 0
FindsLine (Ok done) text old new = IsLine text × Consumes old new (text ++ 10 ∷ [])
FindsLine (Err (halt.Read lines)) text old new = Unit {0}
FindsLine (Err halt.Memory) text old new = ⊥
FindsLine (Err (halt.Refused number why)) text old new = IfSome old (λ input. first_line (lines_of input) ≡ Err (input_cause why))
