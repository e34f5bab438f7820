use Rattle.std.proofs.Common.{refl}
use Rattle.slave_core.specs.declared.phase.Phase.TheVariants as phase
use Rattle.slave_core.proofs.Transits.{taken_in_place, refused_in_place}
use Rattle.slave_core.proofs.states.InData.more.Goals as goal

pub returns-in-Ok : goal.returns-in-Ok
returns-in-Ok c = taken_in_place phase.Data _ _ _ _ _ _ _ _ c.answer.ensures c.in-Ok.is refl

pub returns-in-Err : goal.returns-in-Err
returns-in-Err c = refused_in_place phase.Data _ _ _ _ _ _ _ _ _ c.answer.ensures c.in-Err.is refl
