use Rattle.plant_core.proofs.Worlds.{reacts}
use Rattle.plant_core.proofs.laws.reacts.Goals as goal

pub returns : goal.returns
returns c = reacts
