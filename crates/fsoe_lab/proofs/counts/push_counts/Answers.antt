use Rattle.std.proofs.Common.{◌∙◌, ◌+◌, arith}
use Rattle.fsoe_lab.proofs.Counting.{no_lines, more_lines}
use Rattle.fsoe_lab.proofs.counts.push_counts.Goals as goal

pub loop-before-init : goal.loop-before-init
loop-before-init c = record { text = no_lines c.args.text.now c.args.word.now c.args.most; room = omega arith }

pub loop-before-preserved : goal.loop-before-preserved
loop-before-preserved c =
    let counted = c.changes_by_bits-counts.ensures (c.loop-before.before + 1) (omega arith) in
    record {
      text = (rw counted at c.push_count.ensures.text) ∙ more_lines c.loop-before.text c.args.text.now c.args.word.now c.args.most c.loop-before.before c.loop-before.invariant.text;
      room = omega (arith, c.push_count.ensures.most, c.loop-before.invariant.room);
    }
