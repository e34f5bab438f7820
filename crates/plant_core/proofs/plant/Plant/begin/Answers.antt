use Rattle.plant_core.proofs.Common.{links_made}
use Rattle.std.proofs.Common.{ap₂, ◌∙◌, rules}
use Rattle.plant_core.proofs.Made.{made_count}
use Rattle.plant_core.proofs.Pulling.{starts}
use Rattle.plant_core.proofs.plant.Plant.begin.Goals as goal

pub note_offers-requires-clause-room : goal.note_offers-requires-clause-room
note_offers-requires-clause-room g c = search (rules, made_count)

pub returns-clause-starts : goal.returns-clause-starts
returns-clause-starts g c =
    let A = g.A.Application in
    let links = c.in_ok-connect.ensures.links ∙ ap₂ (links_made 1) c.bounds.ensures.value c.links-links.ensures.value in
    let stands = rw (c.links-links.ensures.value, ← c.connect.ensures.app) at c.in_ok-connect.ensures.stands in
    let steps = c.in_ok-take_room.ensures.steps ∙ c.journal.view_is ∙ c.new-journal.ensures in
    let offers = rw (links, steps) at c.note_offers.ensures.offers in
    let begins = rw c.seed.ensures at c.begin.ensures.begins in
    rw (← c.self.view_is, ← c.connect.ensures.app) (starts _ _ _ _ _ _ stands (c.first_cycle.ensures.follows _) offers begins)
