use Rattle.std.proofs.Common.{◌∙◌, arith, refl}
use Rattle.std.proofs.lemmas.List.{at_drop_all}
use Rattle.file_run.proofs.Putting.{putting_all, putting_lost, putting_more, putting_none}
use Rattle.file_run.proofs.Sending.{rose_since}
use Rattle.plant_file.specs.JournalText.{journal_text}
use Rattle.plant_file.proofs.Noting.{next_line}
use Rattle.plant_file.proofs.noted.put_steps.Goals as goal

pub loop-step-init : goal.loop-step-init
loop-step-init g c = record {
  putting = putting_none c.args.output.now (g.K.Sink.written c.args.sink.now) (journal_text c.args.steps.now);
  room = omega arith;
  stays = refl;
}

pub put-requires-clause-count : goal.put-requires-clause-count
put-requires-clause-count g c = omega arith

pub loop-step-preserved : goal.loop-step-preserved
loop-step-preserved g c =
    let next = next_line c.args.steps.now c.loop-step.step-index c.step-item.result c.bytes-line.result.now (omega arith) c.step-item.is (c.bytes-line.ensures.value ∙ c.write_line.ensures) in
    record {
      putting = putting_more _ _ _ _ _ _ _ _ c.bytes-line.result.now _ c.loop-step.invariant.putting next c.in_default.ensures.puts;
      room = omega (arith, c.loop-step.invariant.room, c.in_default.ensures.count, c.bytes-line.ensures.most);
      stays = c.in_default.ensures.cause.stayed ∙ c.loop-step.invariant.stays;
    }

pub returns-clause-puts : goal.returns-clause-puts
returns-clause-puts g c = putting_all _ _ _ _ _ _ c.loop-step.invariant.putting (at_drop_all journal_text c.args.steps.now c.loop-step.step-index (omega arith))

pub returns-clause-count : goal.returns-clause-count
returns-clause-count g c = omega arith

pub returns-clause-cause : goal.returns-clause-cause
returns-clause-cause g c = record { later = omega (arith, c.loop-step.invariant.stays); failed = tt; stayed = c.loop-step.invariant.stays }

pub returns-in-Err-clause-puts : goal.returns-in-Err-clause-puts
returns-in-Err-clause-puts g c =
    let next = next_line c.args.steps.now c.loop-step.step-index c.step-item.result c.bytes-line.result.now (omega arith) c.step-item.is (c.bytes-line.ensures.value ∙ c.write_line.ensures) in
    putting_lost c.in-Err.failed c.args.output.now c.loop-step.output c.put.new.self (g.K.Sink.written c.args.sink.now) (g.K.Sink.written c.loop-step.sink) (g.K.Sink.written c.put.new.sink) _ _ c.bytes-line.result.now _
    c.loop-step.invariant.putting next c.in-Err.ensures.puts

pub returns-in-Err-clause-cause : goal.returns-in-Err-clause-cause
returns-in-Err-clause-cause g c = record {
  later = omega (arith, c.loop-step.invariant.stays, c.in-Err.ensures.cause.later);
  failed = rose_since _ _ _ c.loop-step.invariant.stays c.in-Err.ensures.cause.failed;
  stayed = tt;
}
