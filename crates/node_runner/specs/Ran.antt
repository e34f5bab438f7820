-- How the run of a node ends, and what it reports.
use Rattle.std.specs.Prelude.{◌≡◌, ℕ, false, List}
use Rattle.fsoe_base.specs.declared.command.End.{End}
use Rattle.fsoe_io.specs.declared.status.Ended.{Ended}
use Rattle.schedule_file.specs.Header.{Heading}
use Rattle.schedule_file.specs.Input.{Input, schedule_format}
use Rattle.schedule_file.specs.declared.event.Event.{Event}
use Rattle.schedule_file.specs.declared.event.ScheduleLine.{ScheduleLine}
use Rattle.schedule_file.specs.declared.header_kind.HeaderKind.TheVariants as header_kind
use Rattle.file_run.specs.Outside.{Outside}
use Rattle.file_run.specs.Ran.{RanOver}
use Rattle.file_run.specs.Reporting.{Reporting, Never, ended_at}
use Rattle.node_runner.specs.Report.{IsReport}

-- the whole report of the node at this end, and how a run that writes it ends
abbrev pub NodeReports : End → Input → Ended → List ℕ → Type 0
NodeReports end input ended text = IsReport end input text × (ended ≡ ended_at input.stop)

-- what a node reports; it takes no memory
abbrev pub node_reporting : End → Reporting Heading ScheduleLine Event
node_reporting end = record { format = schedule_format (header_kind.Node end); judges = false; memory = Never; reports = NodeReports end }

-- the node at this end ran over an input
abbrev pub RanNode : End → Ended → Outside → Type 0
RanNode end ended o = RanOver (node_reporting end) ended o
