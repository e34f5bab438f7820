use Rattle.plant_core.proofs.Cycling.{app_goes}
use Rattle.plant_core.proofs.Pulling.{app_line}
use Rattle.plant_core.proofs.ends.Ends.change_app.Goals as goal

pub returns-clause-line : goal.returns-clause-line
returns-clause-line g c =
    let offers = rw c.push_reserved.ensures.items at c.note_offers.ensures.offers in
    λ told. app_line _ _ _ told (app_goes _ _ _ told c.change_app.ensures.follows offers)
