use Rattle.plant_core.proofs.Found.{not_on, on_shown}
use Rattle.plant_core.proofs.plant.Plant.is_on.Goals as goal

pub returns-in-Some : goal.returns-in-Some
returns-in-Some g c = on_shown _ c.args.out _ _ _ c.in-Some.ensures c.outputs.ensures.shown c.bit_of.ensures

pub returns-in-None : goal.returns-in-None
returns-in-None g c = not_on _ c.args.out c.in-None.ensures
