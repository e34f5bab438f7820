use Rattle.seq_chain.proofs.Common.{common}
use Rattle.std.proofs.Common.{◌∷◌, [], arith, append_assoc}
use Rattle.seq_chain.proofs.NextGroup.{next_crc}
use Rattle.seq_chain.proofs.cover.write_frame.Goals as goal

pub loop-group-preserved : goal.loop-group-preserved
loop-group-preserved c = record {
  whole = λ last conn cmd is.
      rw (
        c.push-in-loop-group.ensures.items,
        append_assoc c.loop-group.crcs.items (c.later_crc.result ∷ []),
        ← next_crc last conn c.args.frame.now.number cmd c.loop-group.group c.later_crc.result c.args.load.now (omega arith) (c.later_crc.ensures (common last conn c.args.frame.now.number cmd) (c.common_and_zeros-advanced.ensures (common last conn c.args.frame.now.number cmd) is.common_is)),
      )
      (c.loop-group.invariant.whole last conn cmd is);
  len = omega (arith, c.push-in-loop-group.ensures.len);
}
