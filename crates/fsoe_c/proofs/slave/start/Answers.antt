use Rattle.std.proofs.Common.{ap}
use Rattle.fsoe_c.specs.declared.slave_place.SlavePlace.{SlavePlace}
use Rattle.fsoe_c.proofs.Places.{new_end}
use Rattle.fsoe_c.proofs.slave.start.Goals as goal

pub returns-in-Ok-clause-made : goal.returns-in-Ok-clause-made
returns-in-Ok-clause-made c ok v there = new_end _ _ _ c.in-Ok.settings _ c.new.result v c.in-Ok.ensures.settings c.new.ensures.stands c.new.ensures.ids (ap (λ (p : SlavePlace). p.slave) c.put.ensures) there
