use Rattle.pair_convert.proofs.Common.{rose_since}
use Rattle.std.proofs.Common.{Bool, ℕ, length, ap, refl, arith, ◌∙◌}
use Rattle.file_run.proofs.Counted.{counted_halted, counted_last, counted_write}
use Rattle.pair_convert.proofs.Conversion.Converting.{converting_line, converting_sent, converting_start, ends_at_end, ends_halted, ends_lost, ends_unsent, ran_by}
use Rattle.pair_convert.proofs.convert.run_convert.Goals as goal

pub loop-output-init : goal.loop-output-init
loop-output-init g c = record {
  source_stays = refl;
  sink_stays = refl;
  running = converting_start (g.S.Source.left c.args.source.now) (g.K.Sink.written c.args.sink.now) c.new-reader.result.bytes c.new-output.result c.new-reading.result c.new-reader.result.lines c.new-reader.ensures.bytes c.new-reader.ensures.lines
      c.new-output.ensures.bytes c.new-output.ensures.sent c.new-reading.ensures;
}

pub returns-in-Err : goal.returns-in-Err
returns-in-Err g c =
    let puts = c.in-Err.ensures.puts in
    let cause = c.in-Err.ensures.cause in
    let stays = c.loop-output.invariant.sink_stays in
    ran_by _ _
    (ends_unsent _ _ _ _ _ c.loop-output.reading c.loop-output.reader.lines puts.0 c.write_failed.result c.loop-output.invariant.running puts.1 c.write_failed.ensures.status c.write_failed.ensures.place
    (rose_since _ _ _ stays cause.failed))
    (counted_write c.write_failed.result _ c.write_failed.ensures.status c.loop-output.invariant.source_stays (omega (arith, stays, cause.later)))

pub returns-in-Err-next_taken : goal.returns-in-Err-next_taken
returns-in-Err-next_taken g c =
    let sent = converting_sent _ _ _ _ _ _ _ _ _ c.loop-output.invariant.running c.in_default.ensures.puts c.in_default.ensures.count in
    let next = c.in-Err-next_taken.ensures in
    let source = c.loop-output.invariant.source_stays in
    let stays = c.in_default.ensures.cause.stayed ∙ c.loop-output.invariant.sink_stays in
    ran_by _ _
    (ends_halted _ _ _ c.next_taken.new.reader.bytes (g.S.Source.faults c.loop-output.source) _ _ c.loop-output.reading c.next_taken.new.reading c.loop-output.reader.lines c.next_taken.new.reader.lines c.next_taken.new.text c.in-Err-next_taken.why c.halt.result
    sent next.finds next.goes next.stalls next.most next.cause source c.halt.ensures.writes stays)
    (counted_halted Bool _ _ _ _ _ c.send_before_read.new.output.bytes c.in-Err-next_taken.why c.halt.result next.cause next.later source
    (λ some. ap g.S.Source.faults (next.unread (λ is. let none = ap (length {A = ℕ}) (c.in_default.ensures.sent is) in absurd (omega (arith, some, none))))) stays c.halt.ensures.writes c.halt.ensures.later)

pub returns-then-ends : goal.returns-then-ends
returns-then-ends g c =
    let sent = converting_sent _ _ _ _ _ _ _ _ _ c.loop-output.invariant.running c.in_default.ensures.puts c.in_default.ensures.count in
    let next = c.in-Ok.ensures in
    let stays = c.in_default.ensures.cause.stayed ∙ c.loop-output.invariant.sink_stays in
    ran_by _ _
    (ends_at_end _ _ _ c.next_taken.new.reader.bytes _ _ c.loop-output.reading c.next_taken.new.reading c.loop-output.reader.lines c.bytes.result.now c.close.result sent (rw (c.if-ends.true, ← c.bytes.ensures.value) at next.finds) next.most c.close.ensures.writes stays)
    (counted_last _ _ _ _ _ _ c.close.result (next.cause ∙ c.loop-output.invariant.source_stays) stays c.close.ensures.writes c.close.ensures.later)

pub returns-in-Err-put : goal.returns-in-Err-put
returns-in-Err-put g c =
    let sent = converting_sent _ _ _ _ _ _ _ _ _ c.loop-output.invariant.running c.in_default.ensures.puts c.in_default.ensures.count in
    let next = c.in-Ok.ensures in
    let stays = c.in_default.ensures.cause.stayed ∙ c.loop-output.invariant.sink_stays in
    let puts = c.in-Err-put.ensures.puts in
    let cause = c.in-Err-put.ensures.cause in
    ran_by _ _
    (ends_lost _ _ _ _ _ _ c.loop-output.reading c.next_taken.new.reading c.loop-output.reader.lines c.bytes-in-loop-output.result.now puts.0 c.write_failed-in-Err-put.result sent (rw (c.if-ends.false, ← c.bytes-in-loop-output.ensures.value) at next.finds) puts.1
    c.write_failed-in-Err-put.ensures.status c.write_failed-in-Err-put.ensures.place (rose_since _ _ _ stays cause.failed))
    (counted_write c.write_failed-in-Err-put.result _ c.write_failed-in-Err-put.ensures.status (next.cause ∙ c.loop-output.invariant.source_stays) (omega (arith, stays, cause.later)))

pub loop-output-preserved : goal.loop-output-preserved
loop-output-preserved g c =
    let sent = converting_sent _ _ _ _ _ _ _ _ _ c.loop-output.invariant.running c.in_default.ensures.puts c.in_default.ensures.count in
    let next = c.in-Ok.ensures in
    let put = c.in_default-put.ensures in
    record {
      source_stays = next.cause ∙ c.loop-output.invariant.source_stays;
      sink_stays = put.cause.stayed ∙ c.in_default.ensures.cause.stayed ∙ c.loop-output.invariant.sink_stays;
      running = converting_line _ _ _ _ _ _ _ _ c.loop-output.reading c.next_taken.new.reading c.loop-output.reader.lines c.next_taken.new.reader.lines c.bytes-in-loop-output.result.now sent
          (rw (c.if-ends.false, ← c.bytes-in-loop-output.ensures.value) at next.finds) next.goes (next.fewer c.if-ends.false) put.puts put.count c.bytes-in-loop-output.ensures.most;
    }
