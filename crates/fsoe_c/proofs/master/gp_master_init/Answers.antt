use Rattle.std.proofs.Common.{ap}
use Rattle.fsoe_c.specs.declared.master_place.MasterPlace.{MasterPlace}
use Rattle.fsoe_c.proofs.Places.{new_end}
use Rattle.fsoe_c.proofs.master.gp_master_init.Goals as goal

pub returns-in-Ok-clause-made : goal.returns-in-Ok-clause-made
returns-in-Ok-clause-made c ok v there =
    rw (← c.in-Some.ensures.bytes) (new_end _ _ _ c.in-Ok.settings _ c.new.result v c.in-Ok.ensures.settings c.new.ensures.stands c.new.ensures.ids (ap (λ (p : MasterPlace). p.master) c.put.ensures) there)
