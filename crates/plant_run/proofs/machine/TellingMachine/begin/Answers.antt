use Rattle.std.proofs.Common.{refl}
use Rattle.plant_run.proofs.Hearing.{fresh_rooms}
use Rattle.plant_run.proofs.NextLine.{begun}
use Rattle.plant_run.proofs.machine.TellingMachine.begin.Goals as goal

pub hear-requires : goal.hear-requires
hear-requires g c = fresh_rooms _ _ _ c.in_ok-watched.ensures

pub returns-clause-stands : goal.returns-clause-stands
returns-clause-stands g c = (
  (refl, refl, c.in_ok-begin.ensures.name_stays),
  refl,
  begun c.in_ok-begin.ensures.starts c.in_ok-begin.ensures.fixed (rw (c.links.ensures.value, c.bounds.ensures.value) at c.in_ok-watched.ensures) c.hear.ensures c.in_ok-begin.ensures.same_lengths c.requires.kind (λ more. refl),
)
