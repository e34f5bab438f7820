use Rattle.duo_run.proofs.Common.{pairs_of}
use Rattle.std.proofs.Common.{arith, length}
use Rattle.duo_run.proofs.Pairs.Least.{room_for_one}
use Rattle.duo_run.proofs.pairs_run.PairsRunMachine.is_full.Goals as goal

pub returns-else-self-ge-MAX_EVENTS-clause-full : goal.returns-else-self-ge-MAX_EVENTS-clause-full
returns-else-self-ge-MAX_EVENTS-clause-full c = λ alloc h log text count k.
    room_for_one (length (pairs_of h)) c.args.self.now.entries c.args.events log k.some k.made_is count (omega (arith, c.if-self-ge-MAX_EVENTS.false))
