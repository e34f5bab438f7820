-- Why an input goes no further, how a run ends then, and the last line that it writes.
use Rattle.std.specs.Prelude.{ℕ, ◌+◌, List, []}
use Rattle.fsoe_io.specs.declared.line.LineFault.{LineFault}
use Rattle.fsoe_io.specs.declared.line.LineFault.TheVariants as line_fault
use Rattle.fsoe_io.specs.declared.status.Ended.{Ended}
use Rattle.fsoe_io.specs.declared.status.Status.TheVariants as status
use Rattle.file_run.specs.Refusal.{input_cause}
use Rattle.file_run.specs.Report.{refused_line}
use Rattle.file_run.specs.declared.halt.Halt.{Halt}
use Rattle.file_run.specs.declared.halt.Halt.TheVariants as halt
use Rattle.file_run.specs.declared.refusal.Refusal.TheVariants as refusal
use Rattle.file_run.specs.declared.stopped.Stopped.{Stopped}
use Rattle.file_run.specs.declared.stopped.Stopped.TheVariants as stopped

-- a failed read comes after so many whole lines; a refused line is the one after them
abbrev pub halt_of : LineFault → ℕ → Halt
halt_of line_fault.Read before = halt.Read before
halt_of line_fault.Long before = halt.Refused (before + 1) refusal.Long
halt_of line_fault.NoNewline before = halt.Refused (before + 1) refusal.NoNewline

-- an event of the line of this number isn't done
abbrev pub halt_stopped : Stopped → ℕ → Halt
halt_stopped stopped.NoFrame line = halt.Refused line refusal.NoFrame
halt_stopped stopped.NoApp line = halt.Refused line refusal.NoApp
halt_stopped stopped.Memory line = halt.Memory

-- a failed read is at the whole lines before it, a refusal at its line, and want of memory at no place
abbrev pub halted_by : Halt → Ended
halted_by (halt.Read lines) = record { status = status.Read; place = lines }
halted_by halt.Memory = record { status = status.Memory; place = 0 }
halted_by (halt.Refused line cause) = record { status = status.Line; place = line }

-- nothing is written of a failed read and of want of memory
abbrev pub last_of : Halt → List ℕ
last_of (halt.Read lines) = []
last_of halt.Memory = []
last_of (halt.Refused line cause) = refused_line line (input_cause cause)
