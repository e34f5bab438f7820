use Rattle.trace_diag.proofs.Judging.{none_noted}
use Rattle.trace_diag.proofs.trace.Trace.new.Goals as goal

pub returns-clause-stands : goal.returns-clause-stands
returns-clause-stands c = none_noted c.args.lengths c.new.result (c.new.ensures c.args.lengths)
