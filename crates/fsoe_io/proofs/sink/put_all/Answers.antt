use Rattle.std.proofs.Common.{arith, ◌∙◌}
use Rattle.std.proofs.Math.Seq.{take-add}
use Rattle.std.proofs.lemmas.List.{take_rest, length-drop}
use Rattle.fsoe_io.proofs.Grown.{grew_then}
use Rattle.fsoe_io.proofs.sink.put_all.Goals as goal

pub loop-done-preserved : goal.loop-done-preserved
loop-done-preserved g c =
    let took = rw take_rest at c.in-Ok.ensures.bytes in
    let bound = rw take_rest at c.in-Ok.ensures.bound.0 in
    (omega (arith, length-drop c.loop-done.done c.args.bytes.now), c.in-Ok.ensures.cause.stayed ∙ c.loop-done.invariant.1, rw take-add (grew_then _ _ _ _ _ c.loop-done.invariant.2 took))
