use Rattle.std.proofs.Common.{sym, ap, ◌∙◌}
use Rattle.fsoe_frame.specs.Parts.{bytes_of}
use Rattle.fsoe_frame.proofs.Places.{whole}
use Rattle.fsoe_frame.proofs.reading.FrameView.bytes.Goals as goal

pub returns-clause-value : goal.returns-clause-value
returns-clause-value c = sym ((whole c.self.inside.l c.self.inside.bytes.now c.self.invariant.0 c.self.invariant.1).back c.self.invariant.2) ∙ ap bytes_of c.self.view_is
