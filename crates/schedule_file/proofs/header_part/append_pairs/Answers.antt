use Rattle.schedule_file.proofs.Common.{ranges_with}
use Rattle.std.proofs.Common.{ℕ, length-append, arith, ap, ◌∙◌}
use Rattle.schedule_file.proofs.Ranges.{is_acceptable-append-one, pair_at, ranges_with-pair}
use Rattle.schedule_file.proofs.header_part.append_pairs.Goals as goal

pub loop-k-preserved : goal.loop-k-preserved
loop-k-preserved c =
    let pair = pair_at c.args.pairs.now c.loop-k.k (omega arith) in
    rw (c.push.ensures, c.push-in-loop-k.ensures) (record {
      acceptable = is_acceptable-append-one c.loop-k.low c.loop-k.high _ _ c.loop-k.invariant.acceptable c.if-lowest-highest.false;
      same_length = omega (arith, length-append {A = ℕ}, c.loop-k.invariant.same_length);
      room = omega (arith, length-append {A = ℕ}, c.loop-k.invariant.room);
      rest_to_come = c.loop-k.invariant.rest_to_come ∙ ap (ranges_with c.loop-k.low c.loop-k.high) pair ∙ ranges_with-pair c.loop-k.low c.loop-k.high _ _ _ c.if-lowest-highest.false;
    })
