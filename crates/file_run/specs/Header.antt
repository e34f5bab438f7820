-- The header of an input. H is what it says.
use Rattle.std.specs.Prelude.{◌≡◌, ◌≤◌, ℕ, List, [], ◌++◌, Option, Result, Ok, Err}
use Rattle.std.specs.Io.KnownBytes.{Consumes}
use Rattle.schedule_file.specs.Input.{InputFormat, Stop, WholeHeaderOf, lines_of, header_read}
use Rattle.schedule_file.specs.declared.line_cause.LineCause.{LineCause}
use Rattle.file_run.specs.declared.halt.Halt.{Halt}
use Rattle.file_run.specs.Left.{HaltsHeader}
use Rattle.file_run.specs.Reporting.{Reporting}
use Rattle.file_run.specs.Machine.{most_lines}
use Rattle.file_run.specs.WholeLines.{TookLines}

-- the bytes that were taken say this of the header of an input, by what comes after them
pub record HeaderSays {H L E : Type 0} (f : InputFormat H L E) (said : List ℕ → Result (WholeHeaderOf H) Stop) (old new : Option (List ℕ)) : Type 0 where
  pub taken : List ℕ
  pub goes : Consumes old new taken
  pub says : (more : List ℕ) → header_read f (taken ++ more) ≡ said more

-- they are a whole header of so many lines, whatever comes after them
abbrev pub IsWholeHeader : {H L E : Type 0} → InputFormat H L E → H → ℕ → Option (List ℕ) → Option (List ℕ) → Type 0
IsWholeHeader f h lines old new = HeaderSays f (λ more. Ok (record { heading = h; lines = lines; rest = lines_of more })) old new

-- a header of so many lines was read, or goes no further, not for want of memory
abbrev pub ReadsHeader : {H L E : Type 0} → InputFormat H L E → Result (Unit {0}) Halt → H → ℕ → Option (List ℕ) → Option (List ℕ) → Type 0
ReadsHeader f (Ok read) h lines old new = IsWholeHeader f h lines old new × TookLines lines old new
ReadsHeader f (Err why) h lines old new = HaltsHeader f ⊥ why old new

-- a header was read whole, in so many lines: after it a machine stands for no events, and lines are read by what it
-- says
pub record Begins {H L E : Type 0} (r : Reporting H L E) (stands : H → List E → List ℕ → Type 0) (says : List ℕ → Result L LineCause) (lines : ℕ) (old new : Option (List ℕ)) : Type 0 where
  pub heading : H
  pub whole : IsWholeHeader r.format heading lines old new
  pub took : TookLines lines old new
  pub most : lines ≤ most_lines
  pub stood : stands heading [] []
  pub same : (text : List ℕ) → says text ≡ r.format.line heading text
