use Rattle.std.proofs.Common.{ℕ, ◌+◌, ◌*◌, List, length, arith, take}
use Rattle.fsoe_frame.proofs.Places.{put_taken, reads_all, reads_pair}
use Rattle.fsoe_frame.proofs.reading.read_load.Goals as goal
use Rattle.std.proofs.lemmas.Grind.{common_steps}

pub loop-group-preserved : goal.loop-group-preserved
loop-group-preserved c =
    let bytes : List ℕ = c.args.bytes.now in
    let i : ℕ = c.loop-group.group in
    reads_pair (length c.args.out.now) bytes (take (2 * i) c.loop-group.out) _ _ i c.requires.valid c.if-out-eq1.false c.requires.right
    c.loop-group-test.true c.loop-group.invariant
    (put_taken (2 * i) (2 * (i + 1)) c.loop-group.out c.copy_from_slice.new.self _ _ (omega arith) (omega arith)
    c.copy_from_slice.ensures.after)

pub returns-after-loop-group : goal.returns-after-loop-group
returns-after-loop-group c = grind (arith, common_steps, reads_all)
