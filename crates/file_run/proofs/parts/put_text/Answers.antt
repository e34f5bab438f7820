use Rattle.std.proofs.Common.{◌∙◌, ◌++◌, arith, refl, sym}
use Rattle.std.proofs.lemmas.Result.{err_from_is_err_and}
use Rattle.file_run.proofs.Putting.{is_none, not_none, putting_all, putting_lost, putting_more, putting_none}
use Rattle.file_run.proofs.parts.put_text.Goals as goal

pub loop-machine-init : goal.loop-machine-init
loop-machine-init g c = record {
  putting = putting_none c.args.output.now (g.K.Sink.written c.args.sink.now) (c.args.text.now ++ g.M.Machine.waits c.args.machine.now c.args.handed.now);
  kept = λ first h log text stood. stood;
  room = omega arith;
  stays = refl;
}

pub loop-machine-preserved : goal.loop-machine-preserved
loop-machine-preserved g c = record {
  putting = rw (← c.more.ensures.part) (putting_more _ _ _ _ _ _ _ _ c.bytes-part.result.now _ c.loop-machine.invariant.putting (rw c.bytes-part.ensures.value refl) c.in_ok-put.ensures.puts);
  kept = λ first h log text stood. c.more.ensures.kept first h log text (c.loop-machine.invariant.kept first h log text stood);
  room =
      let fewer = c.more.ensures.fewer (not_none c.more.new.text c.bytes.result.now c.bytes.ensures.value (sym c.if-is_empty.false ∙ c.is_empty.ensures)) in
      omega (arith, fewer, c.loop-machine.invariant.room, c.in_ok-put.ensures.count, c.bytes-part.ensures.most);
  stays = c.in_ok-put.ensures.cause.stayed ∙ c.loop-machine.invariant.stays;
}

pub returns-in_err-put-clause-puts : goal.returns-in_err-put-clause-puts
returns-in_err-put-clause-puts g c =
    let p = err_from_is_err_and c.from_residual.result c.from_residual.ensures.1 in
    rw p.1 (putting_lost {E = Unit {0}} tt c.args.output.now c.loop-machine.output c.put.new.self (g.K.Sink.written c.args.sink.now) (g.K.Sink.written c.loop-machine.sink) (g.K.Sink.written c.put.new.sink) _ _ c.bytes-part.result.now
    (g.M.Machine.waits c.loop-machine.machine c.args.handed.now) c.loop-machine.invariant.putting (rw c.bytes-part.ensures.value refl) c.in_err-put.ensures.puts)

pub returns-then-is_empty-clause-puts : goal.returns-then-is_empty-clause-puts
returns-then-is_empty-clause-puts g c =
    putting_all _ _ _ _ _ _ (putting_more _ _ _ _ _ _ _ _ c.bytes-part.result.now _ c.loop-machine.invariant.putting (rw c.bytes-part.ensures.value refl) c.in_ok-put.ensures.puts)
    (c.more.ensures.some (is_none c.more.new.text c.bytes.result.now c.bytes.ensures.value (sym c.if-is_empty.true ∙ c.is_empty.ensures)))
