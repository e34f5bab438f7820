use Rattle.std.proofs.Common.{length}
use Rattle.black_channel.proofs.parcel_ring.ParcelRing.clear.Given as goal

abbrev pub decreases-loop-self : goal.decreases-loop-self
decreases-loop-self l = length l.self
