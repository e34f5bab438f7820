use Rattle.std.proofs.Common.{arith}
use Rattle.duo_run.proofs.Numbers.Summarizing.{never_misses, never_err, goes_on, room_after}
use Rattle.duo_run.proofs.bulk.summarize.Goals as goal

pub advance-requires-clause-fits : goal.advance-requires-clause-fits
advance-requires-clause-fits c = rw (c.loop.invariant.lengths, c.loop.invariant.profiles) c.next_into.ensures.fits

pub advance-requires-clause-fewer : goal.advance-requires-clause-fewer
advance-requires-clause-fewer c = omega (arith, c.loop.invariant.steps)

pub note-requires-clause-master : goal.note-requires-clause-master
note-requires-clause-master c = (room_after _ _ _ _ _ c.loop.invariant (omega arith)).0

pub note-requires-clause-slave : goal.note-requires-clause-slave
note-requires-clause-slave c = (room_after _ _ _ _ _ c.loop.invariant (omega arith)).1

pub unwrap-requires : goal.unwrap-requires
unwrap-requires c = never_err _ c.advance.result c.advance.ensures.misses (never_misses _ _ _ _ _ _ _ c.loop.invariant c.next_into.ensures.makes)

pub loop-preserved : goal.loop-preserved
loop-preserved c =
    let advances = rw c.unwrap.ensures at c.advance.ensures.advances in
    let done = rw c.unwrap.ensures at c.advance.ensures.done in
    goes_on _ _ _ _ _ _ _ _ _ _ _ _ _ c.loop.invariant c.next_into.ensures.makes advances c.end_of-at.ensures c.state_of.ensures c.advance.ensures.lengths c.advance.ensures.profiles done c.note.ensures
