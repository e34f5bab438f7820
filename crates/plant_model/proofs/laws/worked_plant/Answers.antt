use Rattle.std.proofs.Common.{refl}
use Rattle.std.specs.Fmt.{digits}
use Rattle.hex.proofs.OnLiterals.{hex_on_literals}
use Rattle.fsoe_crc.specs.Remainder.{computing}
use Rattle.plant_model.specs.WorkedPlant.{SevenTicks, StopLines}
use Rattle.plant_model.proofs.laws.worked_plant.Goals as goal

pub returns-clause-seven_ticks : goal.returns-clause-seven_ticks
unfolding SevenTicks computing hex_on_literals digits
returns-clause-seven_ticks c = (refl, refl)

pub returns-clause-stop_lines : goal.returns-clause-stop_lines
unfolding StopLines computing hex_on_literals
returns-clause-stop_lines c = refl
