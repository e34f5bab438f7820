use Rattle.end_model.proofs.FreshIds.{old_frame_refused}
use Rattle.end_model.proofs.session_laws.old_frames.Goals as goal

pub returns : goal.returns
returns c = old_frame_refused
