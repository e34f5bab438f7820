-- The names that more than one file of these proofs cites, passed on from one place. Declares nothing.
pub use Rattle.file_run.specs.ByTitle.{ByTitle, IsTitled, first_line}
pub use Rattle.file_run.specs.Ending.{AppendedPart, IsCutOff, LinesBefore, Writes}
pub use Rattle.file_run.specs.Event.{FindsEvent, in_input, says_after, says_by, what_event}
pub use Rattle.file_run.specs.Halt.{Blames, Goes, Halts, Stalls, TookOneAtMost}
pub use Rattle.file_run.specs.Header.{Begins, HeaderSays, IsWholeHeader}
pub use Rattle.file_run.specs.Machine.{most_lines, EndsReport, EndsStopped, EndsUnmet, StandsAsBefore, TakesEvent, input_headless, most_parts}
pub use Rattle.file_run.specs.Left.{Done, HaltsHeader, IsBegun, IsHeaderCutOff, IsOneAhead, IsUnmet, LeavesAll, LeavesAs, LeavesUnbegun, MayFailIn, StopsAfter, line_after}
pub use Rattle.file_run.specs.NextLine.{FindsLine, IsLent}
pub use Rattle.file_run.specs.Outside.{CountsFaults, Outside, Told}
pub use Rattle.file_run.specs.Ran.{CameToEnd, EndsAs, EndsWhole, FailedWrite, MayWant, RanOver, ReadsWhole, ReportsReadLines, line_of_end}
pub use Rattle.file_run.specs.Refusal.{input_cause}
pub use Rattle.file_run.specs.Report.{ended_with, refused_line}
pub use Rattle.file_run.specs.Reporting.{Always, BeginsReport, CutsReport, IsPrefix, MemoryUse, Reporting, ReportsSoFar, TakesMemory, input_stopped, refused_at}
pub use Rattle.file_run.specs.Running.{HasRead, IsFullness, LeavesDone, Lines, Running, Runs, Saying, SaysSo, Seen, Sent, Standing, input_on, more_on, since}
pub use Rattle.file_run.specs.Stop.{halt_of, halt_stopped, halted_by, last_of}
pub use Rattle.file_run.specs.WholeLines.{ReadsUpTo, TookLines, with_newlines}
pub use Rattle.file_run.specs.declared.halt.Halt.{Halt}
pub use Rattle.file_run.specs.declared.refusal.Refusal.{Refusal}
pub use Rattle.file_run.specs.declared.stopped.Stopped.{Stopped}
pub use Rattle.fsoe_io.proofs.Grown.{grew_then}
pub use Rattle.fsoe_io.proofs.Passing.{grew_none, passes_none}
pub use Rattle.fsoe_io.proofs.Taken.{consumes_then}
pub use Rattle.fsoe_io.specs.Faults.{Rose}
pub use Rattle.fsoe_io.specs.Line.{HasNoNewline, IsLine, is_newline, most_held}
pub use Rattle.fsoe_io.specs.LineReader.{Held, IsTooLong, IsUnended, Reads}
pub use Rattle.fsoe_io.specs.Output.{Loses, OutputView, Passes, Puts}
pub use Rattle.fsoe_io.specs.Sink.{Grew, most_waiting}
pub use Rattle.fsoe_io.specs.declared.status.Ended.{Ended}
pub use Rattle.fsoe_io.specs.declared.status.Status.{Status}
pub use Rattle.schedule_file.specs.Input.{AtEnd, InputCause, InputFormat, InputOf, Long, NoApp, NoFrame, NoLine, NoNewline, Refused, Stop, WholeHeaderOf, header_in, header_read, header_step, input_by, input_read, lines_in, lines_of, open_line, whole_line}
pub use Rattle.schedule_file.specs.declared.line_cause.LineCause.{LineCause}
pub use Rattle.std.proofs.lemmas.Grind.{common_steps}
pub use Rattle.std.proofs.lemmas.List.{append-nil, length-append, length-take-le, length_push, take-append-drop}
pub use Rattle.std.proofs.lemmas.Option.{IfSome_then}
pub use Rattle.std.specs.Io.KnownBytes.{Consumes, prepend_known}
pub use Rattle.std.specs.Prelude.{Bool, Err, IfSome, None, Ok, Result, Some, false}
pub use Rattle.std.specs.declared.option.Option.{Option}
