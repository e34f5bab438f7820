use Rattle.std.proofs.Common.{refl}
use Rattle.hex.proofs.OnLiterals.{hex_on_literals}
use Rattle.fsoe_crc.specs.Remainder.{computing}
use Rattle.plant_model.specs.WorkedActs.{FirstActs, CutActs}
use Rattle.plant_model.proofs.act_laws.worked_acts.Goals as goal

pub returns-clause-first : goal.returns-clause-first
unfolding FirstActs computing hex_on_literals
returns-clause-first c = (refl, refl, (refl, (refl, (refl, (refl, (refl, (refl, tt)))))), (refl, refl))

pub returns-clause-cut : goal.returns-clause-cut
unfolding CutActs computing hex_on_literals
returns-clause-cut c = (refl, (refl, (refl, (refl, (63, (refl, refl))))))
