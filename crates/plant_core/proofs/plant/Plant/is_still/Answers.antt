use Rattle.std.proofs.Common.{◌&&◌, Bool, not, sym, ap}
use Rattle.plant_core.proofs.Found.{still_without}
use Rattle.plant_core.proofs.QuietTold.{moving_told, still_told}
use Rattle.plant_core.proofs.plant.Plant.is_still.Goals as goal

pub returns-then-not-offers : goal.returns-then-not-offers
returns-then-not-offers g c =
    let at = rw (← c.self.view_is) at c.in-Some.ensures in
    rw (← c.self.view_is) (still_told _ c.args.bound _ c.offers.result c.guards.result c.guards.result at c.offers.ensures c.guards.ensures (sym (ap (λ (b : Bool). not b && c.guards.result) c.if-not-offers.true)))

pub returns-else-not-offers : goal.returns-else-not-offers
returns-else-not-offers g c =
    let at = rw (← c.self.view_is) at c.in-Some.ensures in
    rw (← c.self.view_is) (moving_told _ c.args.bound _ c.offers.result _ at c.offers.ensures (ap not c.if-not-offers.false) (ap not c.if-not-offers.false))

pub returns-in-None : goal.returns-in-None
returns-in-None g c =
    let none = rw (← c.self.view_is) at c.in-None.ensures in
    rw (← c.self.view_is) (still_without _ c.args.bound c.guards-in-None.result none c.guards-in-None.ensures)
