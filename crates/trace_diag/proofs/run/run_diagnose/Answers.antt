use Rattle.trace_diag.proofs.Reported.{ran}
use Rattle.trace_diag.proofs.run.run_diagnose.Goals as goal

pub returns : goal.returns
returns g c = ran c.run_over.result _ c.run_over.ensures.ran
