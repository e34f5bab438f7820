use Rattle.plant_core.proofs.Found.{worst_shown}
use Rattle.plant_core.proofs.plant.Plant.worst.Goals as goal

pub returns-in-Some : goal.returns-in-Some
returns-in-Some g c = worst_shown _ c.args.link c.in-Some.link.now c.args.end c.worst.result c.in-Some.ensures c.worst.ensures
