use Rattle.trace_diag.proofs.Theorem.{conforms_where_none}
use Rattle.trace_diag.proofs.laws.table.Goals as goal

pub returns-clause-conforms : goal.returns-clause-conforms
returns-clause-conforms c = conforms_where_none
