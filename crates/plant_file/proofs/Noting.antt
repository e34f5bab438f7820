-- A journal that is written line by line.
use Rattle.std.proofs.Common.{◌≡◌, ℕ, ◌+◌, ◌<◌, List, [], ◌++◌, drop, take, length, get_or, min, arith}
use Rattle.fsoe_io.specs.Output.{OutputView}
use Rattle.fsoe_io.specs.declared.status.Ended.{Ended}
use Rattle.file_run.specs.Ending.{Writes}
use Rattle.file_run.specs.Outside.{Told}
use Rattle.plant_model.specs.declared.journal.JournalStep.{JournalStep}
use Rattle.plant_file.specs.JournalText.{journal_text, step_line}
use Rattle.std.proofs.lemmas.Grind.{common_steps}
use Rattle.std.proofs.lemmas.List.{take_min}

-- the text of what is left begins with the line of the next step
pub next_line : (steps : List JournalStep) (i : ℕ) (step : JournalStep) (line : List ℕ) → i < length steps → step ≡ get_or steps i step → line ≡ step_line step → journal_text (drop i steps) ≡ line ++ journal_text (drop (i + 1) steps)
next_line steps i step line h k l = grind (arith, common_steps)

-- what is written through an empty buffer that sent nothing: the lines of so many steps
pub writes_first : (old : OutputView) (steps : List JournalStep) (count most : ℕ) (ended result : Ended) (sink : Told) → old.bytes ≡ [] → old.sent ≡ 0 → count ≡ min most (length steps) → Writes old.sent (old.bytes ++ journal_text (take count steps)) ended result sink
    → Writes 0 (journal_text (take most steps)) ended result sink
writes_first old steps count most ended result sink h k l m = grind (arith, take_min)
