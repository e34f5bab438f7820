-- What it means that a node does over its events what looking back says.
use Rattle.std.specs.Prelude.{◌≡◌, ℕ, List}
use Rattle.fsoe_base.specs.declared.command.End.{End}
use Rattle.schedule_file.specs.Header.{Heading}
use Rattle.schedule_file.specs.declared.event.Event.{Event}
use Rattle.end_model.specs.Setup.{Setup}
use Rattle.end_core.specs.Core.{IsAtRest}
use Rattle.end_core.specs.Standing.{IsAfter}
use Rattle.end_core.specs.declared.one_end.Core.{Core}
use Rattle.node_runner.specs.Report.{IsSetTo, deed_lines, node_deeds}

-- an end was set to what a header says, and is after the deeds of these events, of which this text has the lines; no
-- frame of it is due
pub record NodeStands (end : End) (core : Core) (h : Heading) (log : List Event) (text : List ℕ) : Type 0 where
  pub setup : Setup
  pub set : IsSetTo end h setup
  pub is_after : IsAfter setup core (node_deeds setup log)
  pub rest : IsAtRest core
  pub lines : text ≡ deed_lines setup (node_deeds setup log)
