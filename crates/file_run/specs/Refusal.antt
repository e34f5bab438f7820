-- The causes for which a line of an input is refused, and their names.
use Rattle.std.specs.Prelude.{ℕ, List, codes}
use Rattle.schedule_file.specs.Input as input
use Rattle.schedule_file.specs.LineCause.{cause_name}
use Rattle.file_run.specs.declared.refusal.Refusal.{Refusal}
use Rattle.file_run.specs.declared.refusal.Refusal.TheVariants as refusal

-- a cause, as it is said of an input
abbrev pub input_cause : Refusal → input.InputCause
input_cause refusal.Long = input.Long
input_cause refusal.NoNewline = input.NoNewline
input_cause refusal.NoLine = input.NoLine
input_cause refusal.TooMany = input.TooMany
input_cause refusal.NoFrame = input.NoFrame
input_cause refusal.NoApp = input.NoApp
input_cause (refusal.Line why) = input.Line why

-- the name of a cause in a report
abbrev pub refusal_name : input.InputCause → List ℕ
refusal_name input.Long = codes "Long"
refusal_name input.NoNewline = codes "NoNewline"
refusal_name input.NoLine = codes "End"
refusal_name input.TooMany = codes "TooMany"
refusal_name input.NoFrame = codes "NoFrame"
refusal_name input.NoApp = codes "NoApp"
refusal_name (input.Line why) = cause_name why
