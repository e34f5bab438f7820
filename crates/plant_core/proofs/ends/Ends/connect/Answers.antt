use Rattle.plant_core.proofs.Made.{made_ready}
use Rattle.plant_core.proofs.ends.Ends.connect.Goals as goal

pub returns-clause-ready : goal.returns-clause-ready
returns-clause-ready g c = made_ready _ _ _ _ _ _ _ c.in-Ok.ensures c.in-Ok-connect.ensures.settings c.requires
