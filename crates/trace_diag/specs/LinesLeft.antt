-- How many lines the header of a trace may still have.
use Rattle.std.specs.Prelude.{ℕ}
use Rattle.trace_diag.specs.declared.header.Stage.{Stage}
use Rattle.trace_diag.specs.declared.header.Stage.TheVariants as trace_stage
use Rattle.trace_diag.specs.Lines.{TraceHeading}

-- the lines that a header may still have
abbrev pub lines_from : Stage → ℕ
lines_from trace_stage.Start = 3
lines_from trace_stage.Title = 2
lines_from trace_stage.Lengths = 1
lines_from _ = 0

abbrev pub trace_lines_left : TraceHeading → ℕ
trace_lines_left h = lines_from h.stage
