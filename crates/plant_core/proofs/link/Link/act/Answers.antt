use Rattle.std.proofs.Common.{refl, rules, sym}
use Rattle.plant_core.proofs.Linked.{slave_acts}
use Rattle.plant_core.proofs.link.Link.act.Goals as goal

pub returns-clause-acts : goal.returns-clause-acts
returns-clause-acts g c =
    rw (← c.self.view_is) (slave_acts _ _ _ _ _ _ _ _ _ _ _ _ _ c.act.ensures.follows c.act.ensures.answers c.terms.ensures c.watchdog_in-watchdog.ensures c.acted.ensures.noted c.acted.ensures.pushed (sym c.parts_of-tick.ensures.tick) (sym c.parts_of-tick.ensures.came) (search rules) refl)
