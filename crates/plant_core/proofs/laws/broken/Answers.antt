use Rattle.plant_core.proofs.Worlds.{broken_by_other}
use Rattle.plant_core.proofs.laws.broken.Goals as goal

pub returns : goal.returns
returns c = broken_by_other
