use Rattle.end_model.proofs.FreshIds.{connection_next, session_next}
use Rattle.end_model.proofs.session_laws.after_first.Goals as goal

pub returns-clause-connection : goal.returns-clause-connection
returns-clause-connection c = connection_next

pub returns-clause-session : goal.returns-clause-session
returns-clause-session c = session_next
