use Rattle.plant_core.proofs.Common.{placed, state_of}
use Rattle.std.proofs.Common.{refl}
use Rattle.plant_core.proofs.Readers.{slave_shown}
use Rattle.plant_core.proofs.plant.Plant.slave_state.Goals as goal

pub returns : goal.returns
returns g c =
    let has = rw (← c.self.view_is) at c.requires in
    rw (← c.self.view_is) (slave_shown _ _ _ _ _ state_of (placed _ _ _ _ _ has refl c.from.ensures c.index.ensures) c.state.ensures)
