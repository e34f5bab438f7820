use Rattle.plant_core.proofs.Made.{lengths_made}
use Rattle.plant_core.proofs.plant.Plant.new.Goals as goal

pub returns-clause-starts : goal.returns-clause-starts
returns-clause-starts g c = rw c.unbegun-plant.ensures.app at c.in_ok-begin.ensures.starts

pub returns-clause-lengths : goal.returns-clause-lengths
returns-clause-lengths g c = lengths_made _ _ _ c.in_ok-begin.ensures.fixed
