-- What the lines of a recorded trace say. The header is the line `fsoe 1 trace`, the line of the lengths and `go`. Then
-- a line says which end sent a frame, and the frame: `m` for the master and `s` for the slave, with 1 to 255 bytes in
-- hexadecimal; and the last is `end`. The first cause for which a line is refused is found as in other inputs. This
-- grammar is this profile's own.
use Rattle.std.specs.Prelude.{ℕ, Bool, true, false, ◌==◌, List, length, codes, Option, Some, None, Result, Ok, Err, if◌then◌else◌}
use Rattle.std.specs.Str.{bytes_eq}
use Rattle.fsoe_base.specs.declared.command.End.{End}
use Rattle.fsoe_base.specs.declared.command.End.TheVariants as side
use Rattle.fsoe_base.specs.Lengths.{most_frame}
use Rattle.schedule_file.specs.EventLine.{bare_line}
use Rattle.schedule_file.specs.Field.{fields_of}
use Rattle.schedule_file.specs.Fields.{map_ok, by_word, no_field, one_hex_field}
use Rattle.schedule_file.specs.HeaderLine.{lengths_line}
use Rattle.schedule_file.specs.Input.{InputFormat}
use Rattle.schedule_file.specs.Limits.{max_events}
use Rattle.schedule_file.specs.declared.header_line.LengthsLine.{LengthsLine}
use Rattle.schedule_file.specs.declared.line_cause.LineCause.{LineCause}
use Rattle.schedule_file.specs.declared.line_cause.LineCause.TheVariants as cause
use Rattle.trace_diag.specs.Trace.{Noted}
use Rattle.trace_diag.specs.declared.header.Stage.{Stage}
use Rattle.trace_diag.specs.declared.header.Stage.TheVariants as trace_stage
use Rattle.trace_diag.specs.declared.trace_line.TraceLine.{TraceLine}
use Rattle.trace_diag.specs.declared.trace_line.TraceLine.TheVariants as trace_says

-- a header as far as it is read, with the numbers of its lengths, 1 and 1 before their line
pub record TraceHeading : Type 0 where
  pub stage : Stage
  pub master : ℕ
  pub slave : ℕ

-- a header of which no line is read
abbrev pub trace_heading_new : TraceHeading
trace_heading_new = record { stage = trace_stage.Start; master = 1; slave = 1 }

-- a header is done once its line `go` is read
abbrev pub trace_is_done : Stage → Bool
trace_is_done trace_stage.Done = true
trace_is_done _ = false

abbrev pub trace_is_whole : TraceHeading → Bool
trace_is_whole h = trace_is_done h.stage

-- a header with its lengths
abbrev pub lengths_taken : LengthsLine → TraceHeading
lengths_taken l = record { stage = trace_stage.Lengths; master = l.master; slave = l.slave }

-- a header after a line, by its word and the fields after it: the title, the lengths and `go`
abbrev pub line_taken : Stage → TraceHeading → List ℕ → List ℕ → List (List ℕ) → Result TraceHeading LineCause
line_taken trace_stage.Start h text word fields = if bytes_eq text (codes "fsoe 1 trace") then Ok (record h { stage = trace_stage.Title }) else Err cause.Header
line_taken trace_stage.Title h text word fields = if bytes_eq word (codes "lengths") then map_ok lengths_taken (lengths_line fields) else Err cause.Header
line_taken trace_stage.Lengths h text word fields = if bytes_eq word (codes "go") then map_ok (λ none. record h { stage = trace_stage.Done }) (no_field fields) else Err cause.Header
line_taken _ h text word fields = Err cause.Header

-- a header after its next line, or why that line is refused
abbrev pub trace_heading_after : TraceHeading → List ℕ → Result TraceHeading LineCause
trace_heading_after h text = by_word cause.Header (line_taken h.stage h text) (fields_of text)

-- a frame of 1 to 255 bytes
abbrev pub frame_line : End → List (List ℕ) → Result TraceLine LineCause
frame_line from fields = map_ok (λ bytes. trace_says.Sent (record { from = from; frame = bytes })) (one_hex_field most_frame fields)

-- what a line says that begins with this word
abbrev pub trace_said : List ℕ → List (List ℕ) → Result TraceLine LineCause
trace_said word fields =
    if bytes_eq word (codes "m") then frame_line side.Master fields
    else if bytes_eq word (codes "s") then frame_line side.Slave fields
    else if bytes_eq word (codes "end") then bare_line trace_says.Last fields
    else Err cause.Word

-- what a line of a trace says after the header
abbrev pub trace_line : List ℕ → Result TraceLine LineCause
trace_line text = by_word cause.Word trace_said (fields_of text)

-- the frame that a line says; the last line says none
abbrev pub frame_said : TraceLine → Option Noted
frame_said (trace_says.Sent x) = Some x
frame_said trace_says.Last = None

-- how an input with a trace is read: at most 200,000 frames
abbrev pub trace_format : InputFormat TraceHeading TraceLine Noted
trace_format = record {
  start = trace_heading_new;
  header_line = trace_heading_after;
  is_whole = trace_is_whole;
  line = λ h. trace_line;
  event = frame_said;
  is_full = λ h frames. length frames == max_events;
}
