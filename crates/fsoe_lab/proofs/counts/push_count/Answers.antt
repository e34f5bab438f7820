use Rattle.std.proofs.Common.{arith}
use Rattle.std.proofs.lemmas.Grind.{common_steps}
use Rattle.fsoe_lab.proofs.Counting.{line_length}
use Rattle.fsoe_lab.proofs.counts.push_count.Goals as goal

pub returns-clause-most : goal.returns-clause-most
returns-clause-most c =
    line_length c.args.text.now c.args.word.now c.push-4.new.self c.args.bits c.args.changes c.requires.word c.requires.bits (omega arith) (grind (arith, common_steps))
