use Rattle.process_image.proofs.Common.{append-nil}
use Rattle.std.proofs.Common.{[], None, Some, length, refl, sym, ap, arith}
use Rattle.process_image.proofs.ToldLines.{lines_more}
use Rattle.process_image.proofs.told_lines.sample.Goals.{in-Some, in_default}
use Rattle.process_image.proofs.told_lines.sample.Goals as goal

pub loop-i-preserved : goal.loop-i-preserved
loop-i-preserved c = elim c.match-dids-i.branch [
  | in-Some w ↦ record {
    lines = lines_more (λ o. o) _ c.args.number _ c.loop-i.i c.index-dids-i.result (Some w.in-Some.did) _ _ w.tell.ensures.line.line (omega arith) w.in-Some.is c.loop-i.invariant.lines w.tell.ensures.line.shows
        (rw (w.text-is, w.waiting-is) w.tell.ensures.line.text_is);
    first = λ none. absurd (omega (arith, ap length none, ap length w.text-is, w.tell.ensures.some));
    room = rw w.waiting-is (omega (arith, w.tell.ensures.room, c.loop-i.invariant.room));
  }
  | in_default w ↦ record {
    lines = lines_more (λ o. o) _ c.args.number _ c.loop-i.i c.index-dids-i.result None _ _ [] (omega arith) w.in_default.is c.loop-i.invariant.lines refl (rw (w.text-is, w.waiting-is) (sym (append-nil _)));
    first = rw (w.text-is, w.waiting-is) c.loop-i.invariant.first;
    room = rw w.waiting-is (omega (arith, c.loop-i.invariant.room));
  }
]
