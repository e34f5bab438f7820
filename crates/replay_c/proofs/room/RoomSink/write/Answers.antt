use Rattle.std.proofs.Common.{arith, ◌+◌, ◌-◌, length}
use Rattle.std.proofs.Math.Nat.{min-le_right}
use Rattle.replay_c.proofs.Past.{past_on}
use Rattle.replay_c.proofs.room.RoomSink.write.Goals as goal

pub invariant_of-self-2-clause-past : goal.invariant_of-self-2-clause-past
invariant_of-self-2-clause-past c =
    let room = c.args.self.now in
    past_on room.len (room.len + c.min-count.result) room.memory.now c.copy_from_slice.new.self room.before.bytes
    (omega arith) (omega (arith, room.fits, c.min-count.ensures, min-le_right (length c.args.piece.now) (length room.memory.now - room.len)))
    c.copy_from_slice.ensures.len room.past
