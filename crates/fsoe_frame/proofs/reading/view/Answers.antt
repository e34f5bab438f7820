use Rattle.std.proofs.Common.{arith, ◌∙◌}
use Rattle.fsoe_frame.proofs.Places.{whole}
use Rattle.fsoe_frame.proofs.reading.view.Goals as goal

pub returns-then-bytes-frame_len-clause-same_bytes : goal.returns-then-bytes-frame_len-clause-same_bytes
returns-then-bytes-frame_len-clause-same_bytes c =
    (whole c.args.l c.args.bytes.now c.requires (c.if-bytes-frame_len.true ∙ c.frame_len.ensures)).back (λ i. let fits = c.type_inv.bytes i in omega arith)
