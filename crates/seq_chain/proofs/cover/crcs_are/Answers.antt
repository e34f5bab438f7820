use Rattle.seq_chain.proofs.Common.{common}
use Rattle.std.proofs.Common.{arith}
use Rattle.seq_chain.proofs.NextGroup.{next_compared}
use Rattle.seq_chain.proofs.cover.crcs_are.Goals as goal

pub returns-then-crc_at-later_crc : goal.returns-then-crc_at-later_crc
returns-then-crc_at-later_crc c last conn cmd is =
    let begun = common last conn c.args.frame.now.number cmd in
    let crc = c.later_crc.ensures begun (c.common_and_zeros-advanced.ensures begun is.common_is) in
    let next = next_compared last conn c.args.frame.now.number cmd c.loop-group.group c.later_crc.result c.args.load.now c.args.view.now.crcs (omega arith) (grind (arith, c.requires)) crc in
    grind (arith, c.loop-group.invariant last conn cmd is, c.crc_at-in-loop-group.ensures, next)

pub loop-group-preserved : goal.loop-group-preserved
loop-group-preserved c last conn cmd is =
    let begun = common last conn c.args.frame.now.number cmd in
    let crc = c.later_crc.ensures begun (c.common_and_zeros-advanced.ensures begun is.common_is) in
    let next = next_compared last conn c.args.frame.now.number cmd c.loop-group.group c.later_crc.result c.args.load.now c.args.view.now.crcs (omega arith) (grind (arith, c.requires)) crc in
    grind (arith, c.loop-group.invariant last conn cmd is, c.crc_at-in-loop-group.ensures, next)
