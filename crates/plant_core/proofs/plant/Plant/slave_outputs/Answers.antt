use Rattle.plant_core.proofs.Common.{out, placed}
use Rattle.std.proofs.Common.{refl}
use Rattle.plant_core.proofs.Readers.{slave_shown}
use Rattle.plant_core.proofs.plant.Plant.slave_outputs.Goals as goal

pub returns-clause-shown : goal.returns-clause-shown
returns-clause-shown g c =
    let has = rw (← c.self.view_is) at c.requires in
    rw (← c.self.view_is) (slave_shown _ _ _ _ _ out (placed _ _ _ _ _ has refl c.from.ensures c.index.ensures) c.outputs.ensures.shown)
