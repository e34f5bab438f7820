use Rattle.schedule_file.proofs.PairsRead.{numbered_said}
use Rattle.schedule_file.proofs.laws.numbered_lines_say_the_same.Goals as goal

pub returns : goal.returns
returns c = numbered_said
