use Rattle.exchange_model.proofs.Worlds.Projection as alone
use Rattle.duo_run.proofs.laws.projection.Goals as goal

pub returns : goal.returns
returns c = λ ms ss which v w h. alone.projection ms ss which w h.world
