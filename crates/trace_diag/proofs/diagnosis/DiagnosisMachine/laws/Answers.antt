use Rattle.trace_diag.proofs.Inputs.{so_far, some_report}
use Rattle.trace_diag.proofs.diagnosis.DiagnosisMachine.laws.Goals as goal

pub returns-clause-some : goal.returns-clause-some
returns-clause-some c = λ handed. some_report

pub returns-clause-so_far : goal.returns-clause-so_far
returns-clause-so_far c = λ first v now h log text k. so_far v.trace h log text k
