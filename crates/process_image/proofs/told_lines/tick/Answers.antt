use Rattle.std.proofs.Common.{Some, length, refl, ap, arith}
use Rattle.process_image.proofs.ToldLines.{lines_more}
use Rattle.process_image.proofs.told_lines.tick.Goals as goal

pub loop-i-preserved : goal.loop-i-preserved
loop-i-preserved c = record {
  lines = lines_more (λ did. Some did) _ c.args.number _ c.loop-i.i c.index-dids-i.result _ _ _ c.tell.ensures.line.line (omega arith) refl c.loop-i.invariant.lines
      c.tell.ensures.line.shows c.tell.ensures.line.text_is;
  first = λ none. absurd (omega (arith, ap length none, c.tell.ensures.some));
  room = omega (arith, c.tell.ensures.room, c.loop-i.invariant.room);
}
