use Rattle.duo_run.proofs.Common.{before_is_clean, before_is_world, before_other, fair_world}
use Rattle.duo_run.proofs.laws.fair.Goals as goal

pub returns : goal.returns
returns c = λ ms ss v w same h. fair_world ms ss (before_other w) same (before_is_world ms ss w h.world) (before_is_clean w)
