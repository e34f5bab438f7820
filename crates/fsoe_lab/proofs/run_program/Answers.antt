-- Where the words name no command, the usage line was written, or its write failed.
use Rattle.std.proofs.Common.{◌≡◌, ◌⊎◌, inl, inr, ℕ, List, ap}
use Rattle.file_run.specs.Ending.{Writes}
use Rattle.file_run.specs.Outside.{Told}
use Rattle.fsoe_io.specs.declared.status.Ended.{Ended}
use Rattle.fsoe_io.specs.declared.status.Status.TheVariants as status
use Rattle.fsoe_lab.proofs.run_program.Goals as goal

usage_told : (line : List ℕ) (ended : Ended) (sink : Told) → Writes 0 line (record { status = status.Usage; place = 0 }) ended sink → (ended.status ≡ status.Usage) ⊎ (ended.status ≡ status.Write)
usage_told line ended sink (inl whole) = inl (ap (λ (e : Ended). e.status) whole.0)
usage_told line ended sink (inr cut) = inr cut.status_is

pub returns : goal.returns
returns c = record { usage = λ none other. usage_told _ _ _ (rw (none, other) at c.run-ended.ensures.runs).wrote }
