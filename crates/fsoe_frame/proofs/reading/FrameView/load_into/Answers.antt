use Rattle.std.proofs.Common.{rules}
use Rattle.fsoe_frame.proofs.Places.{loaded, refilled}
use Rattle.fsoe_frame.proofs.reading.FrameView.load_into.Goals as goal

pub returns : goal.returns
returns c = search (rules, refilled, loaded)
