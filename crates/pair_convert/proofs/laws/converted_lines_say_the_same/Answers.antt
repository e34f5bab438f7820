use Rattle.pair_convert.proofs.Conversion.SameLines.{event_line_same}
use Rattle.pair_convert.proofs.laws.converted_lines_say_the_same.Goals as goal

pub returns-clause-event : goal.returns-clause-event
returns-clause-event c = event_line_same
