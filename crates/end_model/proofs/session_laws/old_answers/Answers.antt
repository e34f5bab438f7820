use Rattle.end_model.proofs.FreshIds.{old_answer_refused}
use Rattle.end_model.proofs.session_laws.old_answers.Goals as goal

pub returns : goal.returns
returns c = old_answer_refused
