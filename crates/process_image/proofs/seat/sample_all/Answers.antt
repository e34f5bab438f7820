use Rattle.process_image.proofs.Common.{IsSampleStep, IsSoundSeat, told_by}
use Rattle.std.proofs.Common.{length, arith}
use Rattle.process_image.proofs.Looping.{does_begun, does_more, does_whole, next_has}
use Rattle.process_image.proofs.seat.sample_all.Goals as goal

pub loop-i-init : goal.loop-i-init
loop-i-init c = does_begun (IsSampleStep c.args.input.now) told_by c.args.seats.now c.args.output.now c.args.told.now

pub sample-requires : goal.sample-requires
sample-requires c = next_has (IsSoundSeat (length c.args.input.now)) c.args.seats.now c.index-seats-i.result c.requires.sound (omega arith) c.loop-i.invariant

pub loop-i-preserved : goal.loop-i-preserved
loop-i-preserved c =
    does_more (IsSampleStep c.args.input.now) told_by c.args.seats.now _ c.loop-i.seats c.loop-i.output _ c.loop-i.told c.loop-i.i c.index-seats-i.result c.sample.new.self c.sample.new.told (omega arith) (omega arith) (omega arith)
    (next_has (IsSoundSeat (length c.args.input.now)) c.args.seats.now c.index-seats-i.result c.requires.sound (omega arith) c.loop-i.invariant).inside_out c.loop-i.invariant c.sample.ensures

pub returns-clause-does : goal.returns-clause-does
returns-clause-does c = does_whole c.loop-i.invariant (omega arith) (omega arith) (omega arith)
