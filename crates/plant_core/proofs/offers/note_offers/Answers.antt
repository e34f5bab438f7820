use Rattle.plant_core.proofs.Common.{slice_get-get_or}
use Rattle.std.proofs.Common.{rules}
use Rattle.plant_core.proofs.Acting.{fixed_set}
use Rattle.plant_core.proofs.Offering.{offers_all, offers_next}
use Rattle.plant_core.proofs.offers.note_offers.Goals as goal

pub loop-i-preserved : goal.loop-i-preserved
loop-i-preserved c = search (rules, slice_get-get_or, offers_next, fixed_set)

pub returns-clause-offers : goal.returns-clause-offers
returns-clause-offers g c = offers_all _ c.changed-changed.result.now c.loop-i.i _ _ _ _ c.loop-i-test.false c.changed-changed.ensures.changed c.loop-i.invariant.fixed c.loop-i.invariant.offers
