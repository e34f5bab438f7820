-- How a run over a recorded trace ends, and what it reports.
use Rattle.std.specs.Prelude.{ℕ, true, List}
use Rattle.fsoe_io.specs.declared.status.Ended.{Ended}
use Rattle.schedule_file.specs.Input.{InputOf}
use Rattle.file_run.specs.Outside.{Outside}
use Rattle.file_run.specs.Ran.{RanOver}
use Rattle.file_run.specs.Reporting.{Never, Reporting}
use Rattle.trace_diag.specs.Lines.{trace_format, TraceHeading}
use Rattle.trace_diag.specs.Report.{DiagnoseReports}
use Rattle.trace_diag.specs.Trace.{Noted}
use Rattle.trace_diag.specs.declared.trace_line.TraceLine.{TraceLine}

-- the report of an input
abbrev pub DiagnosesInput : InputOf TraceHeading Noted → Ended → List ℕ → Type 0
DiagnosesInput input ended text = DiagnoseReports input.heading input.events input.stop ended text

-- what is reported of inputs: a trace that differs ends a run with status 1, and no memory is taken
abbrev pub reporting_by : (InputOf TraceHeading Noted → Ended → List ℕ → Type 0) → Reporting TraceHeading TraceLine Noted
reporting_by reports = record { format = trace_format; judges = true; memory = Never; reports = reports }

abbrev pub diagnose_reporting : Reporting TraceHeading TraceLine Noted
diagnose_reporting = reporting_by DiagnosesInput

-- a trace was judged that an input holds
abbrev pub RanDiagnose : Ended → Outside → Type 0
RanDiagnose ended o = RanOver diagnose_reporting ended o
