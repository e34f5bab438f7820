use Rattle.plant_run.proofs.Common.{other_line}
use Rattle.std.proofs.Common.{List, ℕ, ◌++◌, ap, ◌∙◌}
use Rattle.plant_run.proofs.NextLine.{closed, other_ends}
use Rattle.plant_run.proofs.machine.TellingMachine.close.Goals as goal

pub returns-clause-ends : goal.returns-clause-ends
returns-clause-ends g c = λ first h log lines stands. rw c.ended_with.ensures (other_ends stands.2 c.other_of-other.ensures)

pub returns-clause-closes : goal.returns-clause-closes
returns-clause-closes g c = λ first h log lines n stands.
    closed stands.2 c.other_of-other.ensures
    (c.push_other.ensures.text ∙ ap (λ (z : List ℕ). z ++ other_line c.other_of-other.result) c.write_count.ensures.text) (ap (λ conf. conf.now.links) stands.1) c.ended_with.ensures
