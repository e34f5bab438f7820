use Rattle.fb_net.proofs.Common.{NetCycle, block_after}
use Rattle.std.proofs.Common.{◌≡◌, ◌<◌, length, take, arith, rules}
use Rattle.fb_net.proofs.Running.{blocks_all, ready_at, rest_after, same_at, value_is, values_more, blocks_more}
use Rattle.fb_net.proofs.Looking.{can_run}
use Rattle.fb_net.proofs.cycle.run_blocks.Goals as goal

pub step_block-requires : goal.step_block-requires
step_block-requires _ c =
    let b = c.index-blocks-i.result in
    rw (same_at c.loop-i.blocks c.args.blocks.now c.loop-i.i b (omega arith) c.loop-i.invariant.rest)
    ((ready_at c.args.blocks.now c.loop-i.i b c.requires.can_run.ready (omega arith)).takes)

pub loop-i-preserved : goal.loop-i-preserved
loop-i-preserved _ c =
    let within : c.loop-i.i < length c.loop-i.blocks = omega arith in
    let cycle : NetCycle = record { ticked = c.args.ticked; inputs = c.args.inputs.now } in
    let b = c.index-blocks-i.result in
    let before = take c.loop-i.i c.loop-i.values in
    let value = value_is c.loop-i.values c.loop-i.i cycle b _ c.step_block.result (omega arith) c.index-blocks-i.is c.step_block.ensures.given in
    let new : c.step_block.new.spec ≡ block_after before cycle b = cc in
    search (rules, rest_after, values_more, blocks_more)

pub returns-clause-can_run : goal.returns-clause-can_run
returns-clause-can_run _ c =
    let cycle : NetCycle = record { ticked = c.args.ticked; inputs = c.args.inputs.now } in
    can_run c.args.blocks.now c.loop-i.blocks cycle c.requires.can_run
    (blocks_all c.loop-i.blocks c.args.blocks.now c.loop-i.i (take c.loop-i.i c.loop-i.values) cycle c.loop-i.auto.blocks c.loop-i-test.false c.loop-i.invariant.blocks)
