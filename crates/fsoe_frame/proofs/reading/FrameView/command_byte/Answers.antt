use Rattle.std.proofs.Common.{sym, ap, ◌∙◌}
use Rattle.fsoe_frame.proofs.Places.{frame_at}
use Rattle.fsoe_frame.proofs.reading.FrameView.command_byte.Goals as goal

pub returns : goal.returns
returns c = sym (frame_at c.self.inside.l c.self.inside.bytes.now c.self.invariant.0 c.self.invariant.1).cmd_is ∙ ap (λ f. f.cmd) c.self.view_is
