use Rattle.std.proofs.Common.{rules}
use Rattle.plant_core.proofs.Found.{item_copied, kept_by}
use Rattle.plant_core.proofs.plant.Plant.link.Goals as goal

pub returns : goal.returns
returns c = search (rules, item_copied, kept_by)
