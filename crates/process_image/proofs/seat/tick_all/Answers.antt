use Rattle.process_image.proofs.Common.{IsStepOf, MaySend, did_in}
use Rattle.std.proofs.Common.{arith}
use Rattle.param_load.specs.declared.entry.Move.TheVariants as move
use Rattle.process_image.proofs.Looping.{does_begun, does_more, does_whole, next_has}
use Rattle.process_image.proofs.seat.tick_all.Goals as goal

pub loop-i-init : goal.loop-i-init
loop-i-init c = does_begun (IsStepOf move.Tick) did_in c.args.seats.now c.args.output.now c.args.dids.now

pub tick-requires : goal.tick-requires
tick-requires c = next_has MaySend c.args.seats.now c.index-seats-i.result c.requires.send (omega arith) c.loop-i.invariant

pub loop-i-preserved : goal.loop-i-preserved
loop-i-preserved c =
    does_more (IsStepOf move.Tick) did_in c.args.seats.now _ c.loop-i.seats c.loop-i.output _ c.loop-i.dids c.loop-i.i c.index-seats-i.result c.tick.new.self c.tick.new.did (omega arith) (omega arith) (omega arith)
    (next_has MaySend c.args.seats.now c.index-seats-i.result c.requires.send (omega arith) c.loop-i.invariant).inside c.loop-i.invariant c.tick.ensures

pub returns-clause-does : goal.returns-clause-does
returns-clause-does c = does_whole c.loop-i.invariant (omega arith) (omega arith) (omega arith)
