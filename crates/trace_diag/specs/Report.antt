-- What is reported of a trace, and how the run ends. The texts are this profile's own.
use Rattle.std.specs.Prelude.{◌≡◌, ℕ, List, ◌++◌, length, reverse, codes, decimal, Option, Some, None}
use Rattle.fsoe_base.specs.declared.lengths.Lengths.{Lengths}
use Rattle.fsoe_io.specs.declared.status.Ended.{Ended}
use Rattle.fsoe_io.specs.declared.status.Status.TheVariants as status
use Rattle.schedule_file.specs.Input.{Stop, AtEnd, Refused}
use Rattle.file_run.specs.Report.{refused_line}
use Rattle.file_run.specs.Reporting.{refused_at}
use Rattle.trace_diag.specs.Lines.{TraceHeading}
use Rattle.trace_diag.specs.Trace.{Noted}
use Rattle.trace_diag.specs.Verdicts.{IsVerdict}
use Rattle.trace_diag.specs.declared.field.Field.{Field}
use Rattle.trace_diag.specs.declared.field.Field.TheVariants as field
use Rattle.trace_diag.specs.declared.verdict.Verdict.{Verdict}
use Rattle.trace_diag.specs.declared.verdict.Verdict.TheVariants as trace_verdict

-- a number, and a minus where none is told
abbrev pub told_text : Option ℕ → List ℕ
told_text None = codes "-"
told_text (Some n) = decimal n

-- the name of a field, with the place of a data byte and of a group, both from 0
abbrev pub field_text : Field → List ℕ
field_text field.Turn = codes "Turn"
field_text field.Length = codes "Length"
field_text field.Command = codes "Command"
field_text field.Conn = codes "Conn"
field_text (field.Data place) = codes "Data " ++ decimal place
field_text (field.Crc group) = codes "Crc " ++ decimal group

-- the line that counts all frames, those after the first difference too
abbrev pub frames_line : ℕ → List ℕ
frames_line n = codes "frames " ++ decimal n ++ codes "\n"

-- the lines of a verdict
abbrev pub verdict_lines : Verdict → List ℕ
verdict_lines (trace_verdict.Conforms read) =
    codes "read " ++ told_text read.conn ++ codes " " ++ told_text read.address ++ codes " " ++ told_text read.watchdog ++ codes " " ++ told_text read.app
    ++ codes "\nconforms\n"
verdict_lines (trace_verdict.Differs number which) = codes "frame " ++ decimal number ++ codes " " ++ field_text which ++ codes "\n"

-- how a run ends that was read up to its `end`: a trace that differs is other, and the place is the frame's number
abbrev pub ended_by : Verdict → Ended
ended_by (trace_verdict.Conforms read) = record { status = status.Ok; place = 0 }
ended_by (trace_verdict.Differs number which) = record { status = status.Other; place = number }

-- the lengths are those that the header says
pub record AreLengths (h : TraceHeading) (lengths : Lengths) : Type 0 where
  pub master : lengths.master ≡ h.master
  pub slave : lengths.slave ≡ h.slave

-- the report of a trace that was read up to its `end`
pub record ReportsTrace (lengths : Lengths) (t : List Noted) (ended : Ended) (text : List ℕ) : Type 0 where
  pub told : Verdict
  pub is_verdict : IsVerdict lengths t told
  pub text_is : text ≡ frames_line (length t) ++ verdict_lines told
  pub ended_is : ended ≡ ended_by told

-- the report of a trace with the lengths of its header; an input that came to its `end` has one
abbrev pub ReportsWhole : Option TraceHeading → List Noted → Ended → List ℕ → Type 0
ReportsWhole None t ended text = ⊥
ReportsWhole (Some h) t ended text = (lengths : Lengths) × AreLengths h lengths × ReportsTrace lengths t ended text

-- the whole report of an input with this header and these frames, which come in order and of which a trace has the
-- newest first, where the input stops so, and how a run that writes it ends: a trace that is refused has no verdict,
-- and its report is the refused line alone
abbrev pub DiagnoseReports : Option TraceHeading → List Noted → Stop → Ended → List ℕ → Type 0
DiagnoseReports said frames AtEnd ended text = ReportsWhole said (reverse frames) ended text
DiagnoseReports said frames (Refused number why) ended text = (text ≡ refused_line number why) × (ended ≡ refused_at number)
