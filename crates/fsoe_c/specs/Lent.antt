-- What a place ends as whose end is lent.
use Rattle.std.specs.Prelude.{Some}
use Rattle.std.specs.Borrow.{Lends, MutBor, Fml}
use Rattle.slave_core.specs.SlaveView.{SlaveView}
use Rattle.fsoe_c.specs.Ids.{WithIds}
use Rattle.fsoe_c.specs.contracts.slave_room.SlaveRoom.{the_row as slave_row}
use Rattle.master_core.specs.MasterView.{MasterView}
use Rattle.fsoe_c.specs.contracts.master_room.MasterRoom.{the_row as master_row}
use Rattle.fsoe_c.specs.contracts.slave_place.SlavePlace.{the_row as slave_place_row}
use Rattle.fsoe_c.specs.declared.slave_place.SlavePlace.{SlavePlace}
use Rattle.fsoe_c.specs.contracts.master_place.MasterPlace.{the_row as master_place_row}
use Rattle.fsoe_c.specs.declared.master_place.MasterPlace.{MasterPlace}

-- once the slave is no longer lent, the place holds it as it was left
abbrev pub lends_slave : MutBor SlavePlace → MutBor (WithIds SlaveView) → Fml
lends_slave place slave = Lends slave_place_row slave_row place slave (λ left. record place.now { slave = Some left })

-- once the master is no longer lent, the place holds it as it was left
abbrev pub lends_master : MutBor MasterPlace → MutBor (WithIds MasterView) → Fml
lends_master place master = Lends master_place_row master_row place master (λ left. record place.now { master = Some left })
