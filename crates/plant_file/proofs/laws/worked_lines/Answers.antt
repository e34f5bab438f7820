use Rattle.std.proofs.Common.{refl}
use Rattle.std.specs.Fmt.{digits}
use Rattle.hex.proofs.OnLiterals.{hex_on_literals}
use Rattle.plant_file.specs.WorkedLines.{EventsReadBack, StepLines}
use Rattle.plant_file.proofs.laws.worked_lines.Goals as goal

pub returns : goal.returns
unfolding StepLines EventsReadBack hex_on_literals digits
returns c = record { steps = refl; events = (refl, refl, refl, refl, refl, refl, refl) }
