-- What is kept of a line of several pairs from one line to the next.
use Rattle.std.specs.Prelude.{Option, Some, None}
use Rattle.schedule_file.specs.declared.pairs_line.PairsEvent.{PairsEvent}
use Rattle.schedule_file.specs.declared.pairs_line.PairsEvent.TheVariants as pairs_event
use Rattle.schedule_file.specs.declared.pairs_line.PairsLine.{PairsLine}
use Rattle.schedule_file.specs.declared.pairs_line.PairsLine.TheVariants as said

-- the event of a line; `end` has none
abbrev pub pairs_event_of : PairsLine → Option PairsEvent
pairs_event_of said.Tick = Some pairs_event.Tick
pairs_event_of (said.One pair what) = Some (pairs_event.One pair what)
pairs_event_of said.End = None
