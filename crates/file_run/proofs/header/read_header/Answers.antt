use Rattle.std.proofs.Common.{◌∙◌, arith, refl, sym}
use Rattle.file_run.specs.declared.halt.Halt.TheVariants as halt
use Rattle.file_run.specs.declared.refusal.Refusal.TheVariants as refusal
use Rattle.file_run.proofs.HeaderSeen.{header_goes_on, header_halts, header_next, header_stopped, reading_first}
use Rattle.file_run.proofs.Taken.{halts_after, took_line, took_one}
use Rattle.file_run.proofs.header.read_header.Goals as goal

pub loop-cause-init : goal.loop-cause-init
loop-cause-init g c = record {
  is = c.requires.line;
  held = c.requires.held;
  few = omega (arith, c.requires.few, c.requires.lines);
  kind = refl;
  stays = refl;
  reads = λ input lent. reading_first _ _ _ input _ c.requires.start c.requires.lines lent;
}

pub returns-in-Ok-true-clause-heads : goal.returns-in-Ok-true-clause-heads
returns-in-Ok-true-clause-heads g c =
    let next = rw (c.loop-cause.invariant.kind, c.line.ensures) at c.in-Ok-true.ensures.next in
    λ input lent. header_next (g.F.Format.format (g.F.Format.kind c.args.header.now)) _ c.loop-cause.reader input _ _ (c.loop-cause.invariant.reads input lent) c.loop-cause.invariant.is (λ more. rw (next.0, sym next.1 ∙ c.in-Ok-true.field-0-test) refl)

pub returns-in-Err-clause-heads : goal.returns-in-Err-clause-heads
returns-in-Err-clause-heads g c =
    let next = rw (c.loop-cause.invariant.kind, c.line.ensures) at c.in-Err.ensures.next in
    λ input lent. rw c.lines.ensures (header_stopped (g.F.Format.format (g.F.Format.kind c.args.header.now)) _ _ _ (header_next (g.F.Format.format (g.F.Format.kind c.args.header.now)) _ c.loop-cause.reader input _ _ (c.loop-cause.invariant.reads input lent) c.loop-cause.invariant.is (λ more. rw next refl)).0)

pub returns-in-Err-clause-halts : goal.returns-in-Err-clause-halts
returns-in-Err-clause-halts g c =
    λ input lent.
    let at = c.loop-cause.invariant.reads input lent in
    halts_after input at.rest _ c.loop-cause.reader.bytes at.lines 0 (halt.Refused c.lines.result (refusal.Line c.in-Err.cause)) at.took
    (c.lines.ensures ∙ at.number, took_one _ _ c.loop-cause.reader.line c.loop-cause.invariant.is at.lent) tt c.loop-cause.invariant.held

pub returns-in-Err-next_line-clause-heads : goal.returns-in-Err-next_line-clause-heads
returns-in-Err-next_line-clause-heads g c =
    let next = rw (c.loop-cause.invariant.kind, c.line.ensures) at c.in-Ok-false.ensures.next in
    λ input lent.
    let seen = header_goes_on (g.F.Format.format (g.F.Format.kind c.args.header.now)) _ _ c.loop-cause.reader input _ (c.loop-cause.invariant.reads input lent) c.loop-cause.invariant.is next.0 (sym next.1 ∙ c.in-Ok-false.field-0-test) in
    header_halts (g.F.Format.format (g.F.Format.kind c.args.header.now)) _ _ _ _ _ _ _ _ _ seen.0 c.in-Err-next_line.ensures.finds c.in-Err-next_line.ensures.goes

pub returns-in-Err-next_line-clause-halts : goal.returns-in-Err-next_line-clause-halts
returns-in-Err-next_line-clause-halts g c =
    λ input lent.
    let at = c.loop-cause.invariant.reads input lent in
    halts_after _ _ _ _ _ _ _ (took_line _ _ _ _ _ c.loop-cause.reader.line at.took c.loop-cause.invariant.is at.lent at.number) c.in-Err-next_line.ensures.goes c.in-Err-next_line.ensures.stalls c.in-Err-next_line.ensures.most

pub loop-cause-preserved : goal.loop-cause-preserved
loop-cause-preserved g c =
    let next = rw (c.loop-cause.invariant.kind, c.line.ensures) at c.in-Ok-false.ensures.next in
    let line = c.in_default.ensures in
    record {
      is = line.finds.0;
      held = line.most;
      few = omega (arith, line.goes, c.in-Ok-false.ensures.fewer, c.loop-cause.invariant.few);
      kind = c.in-Ok-false.ensures.kind ∙ c.loop-cause.invariant.kind;
      stays = line.cause ∙ c.loop-cause.invariant.stays;
      reads = λ input lent.
          let seen = header_goes_on (g.F.Format.format (g.F.Format.kind c.args.header.now)) _ _ c.loop-cause.reader input _ (c.loop-cause.invariant.reads input lent) c.loop-cause.invariant.is next.0 (sym next.1 ∙ c.in-Ok-false.field-0-test) in
          record { lines = _; rest = _; seen = seen.0; took = seen.1; lent = line.finds.1; number = line.goes };
    }
