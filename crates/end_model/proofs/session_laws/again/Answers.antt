use Rattle.end_model.proofs.Again.{third_leaves}
use Rattle.end_model.proofs.session_laws.again.Goals as goal

pub returns : goal.returns
returns c = third_leaves
