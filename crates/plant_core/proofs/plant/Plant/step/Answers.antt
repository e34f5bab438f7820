use Rattle.plant_core.proofs.plant.Plant.step.Goals as goal

pub returns-clause-follows : goal.returns-clause-follows
returns-clause-follows g c = rw (← c.self.view_is, ← c.self-inside.view_is) (rw c.in_ok-take_room.ensures.steps at c.happen.ensures.line).follows
