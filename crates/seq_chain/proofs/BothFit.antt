-- The two frames of the worked case fit.
use Rattle.seq_chain.proofs.Common.{fits}
use Rattle.std.proofs.Common.{IsTrue, refl}
use Rattle.fsoe_crc.specs.Remainder.{computing}
use Rattle.seq_chain.specs.BothFit.{noted_before, stepped_frame, other_frame}

pub stepped_fits : IsTrue (fits 0x672D noted_before stepped_frame)
unfolding computing
stepped_fits = refl

pub other_fits : IsTrue (fits 0x672D noted_before other_frame)
unfolding computing
other_fits = refl
