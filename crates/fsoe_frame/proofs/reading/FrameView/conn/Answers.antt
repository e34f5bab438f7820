use Rattle.std.proofs.Common.{rules}
use Rattle.fsoe_frame.proofs.Places.{frame_at}
use Rattle.fsoe_frame.proofs.reading.FrameView.conn.Goals as goal

pub returns : goal.returns
returns c = search (rules, frame_at)
