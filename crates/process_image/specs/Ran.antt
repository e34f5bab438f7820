-- How a run of images over an input ends, and what it reports.
use Rattle.std.specs.Prelude.{◌≡◌, ℕ, false, List}
use Rattle.fsoe_io.specs.declared.status.Ended.{Ended}
use Rattle.schedule_file.specs.Input.{InputOf}
use Rattle.file_run.specs.Outside.{Outside}
use Rattle.file_run.specs.Ran.{RanOver}
use Rattle.file_run.specs.Reporting.{Reporting, BeforeEvents, ended_at}
use Rattle.image_file.specs.Header.{ImageHeading}
use Rattle.image_file.specs.Input.{image_format}
use Rattle.process_image.specs.Report.{IsImageReport}
use Rattle.image_file.specs.declared.event.ImageEvent.{ImageEvent}
use Rattle.image_file.specs.declared.event.ImageLine.{ImageLine}

-- what an input of images says
abbrev pub ImageInput : Type 0
ImageInput = InputOf ImageHeading ImageEvent

-- the whole report of an input, and how a run that writes it ends
abbrev pub ImageReports : ImageInput → Ended → List ℕ → Type 0
ImageReports input ended text = IsImageReport input.heading input.events input.stop text × (ended ≡ ended_at input.stop)

-- what images report; all memory is taken before their first event
abbrev pub image_reporting : Reporting ImageHeading ImageLine ImageEvent
image_reporting = record { format = image_format; judges = false; memory = BeforeEvents; reports = ImageReports }

-- images ran over an input
abbrev pub RanImage : Ended → Outside → Type 0
RanImage ended o = RanOver image_reporting ended o
