use Rattle.plant_core.proofs.plant.Plant+KindOf+H.take_spare.Goals as goal

pub returns-in-Some-clause-follows : goal.returns-in-Some-clause-follows
returns-in-Some-clause-follows g c = (
  c.in-Some.entry,
  c.in-Some.ensures,
  λ told. rw (← c.self.view_is, ← c.self-inside.view_is) (rw c.take_room.ensures.steps at (c.change_app.ensures.line told)).follows,
)
