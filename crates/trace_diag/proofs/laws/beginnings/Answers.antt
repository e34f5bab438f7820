use Rattle.trace_diag.proofs.Theorem.{conforms_before, empty_conforms}
use Rattle.trace_diag.proofs.laws.beginnings.Goals as goal

pub returns-clause-empty : goal.returns-clause-empty
returns-clause-empty c = empty_conforms

pub returns-clause-before : goal.returns-clause-before
returns-clause-before c = conforms_before
