use Rattle.std.proofs.Common.{◌∙◌, arith, rules}
use Rattle.std.proofs.lemmas.Grind.{common_steps}
use Rattle.fsoe_io.proofs.Taken.{line_given, too_long, unended}
use Rattle.fsoe_io.proofs.line_reader.LineReader.advance.Goals as goal

pub returns-in-Line-clause-bytes : goal.returns-in-Line-clause-bytes
returns-in-Line-clause-bytes g c = line_given _ _ _ _ _ _ c.loop-len.invariant.3 c.in-Line.ensures.begins c.take_line.ensures.line c.take_line.ensures.held

pub returns-in-Long-clause-bytes : goal.returns-in-Long-clause-bytes
returns-in-Long-clause-bytes g c = (too_long _ _ _ c.loop-len.invariant.3 c.in-Long.ensures.begins, c.loop-len.invariant.3)

pub returns-in-Ok-eq0-2-clause-bytes : goal.returns-in-Ok-eq0-2-clause-bytes
returns-in-Ok-eq0-2-clause-bytes g c = unended _ _ _ _ _ _ c.loop-len.invariant.3 c.in-Open.ensures.begins c.in-Ok-eq0-2.ensures-1.bytes (search rules) (search rules)

pub returns-in-Line-clause-most : goal.returns-in-Line-clause-most
returns-in-Line-clause-most g c = grind (arith, common_steps)

pub returns-in-Ok-eq0-clause-bytes : goal.returns-in-Ok-eq0-clause-bytes
returns-in-Ok-eq0-clause-bytes g c = grind (arith, common_steps)

pub loop-len-preserved : goal.loop-len-preserved
loop-len-preserved g c = (
  λ none. absurd (none (rw (c.loop-len.invariant.0 none).1 at c.in-Open.ensures.begins)),
  c.in-Ok.ensures.lines ∙ c.loop-len.invariant.1,
  c.in-Ok.ensures.cause.stayed ∙ c.loop-len.invariant.2,
  grind (arith, common_steps),
)

pub loop-len-smaller : goal.loop-len-smaller
loop-len-smaller g c = grind (arith, common_steps)
