-- The chain of an end, and the same as the peer has it.
use Rattle.seq_chain.proofs.Common.{Frame, bytes_decides}
use Rattle.std.proofs.Common.{ℕ, List, IsTrue, refl}
use Rattle.seq_chain.specs.declared.chain.Chain.{Chain}
use Rattle.seq_chain.specs.Chain.{sealed_by, turned}
use Rattle.seq_chain.specs.Session.{fits_next}

-- the peer's next frame is what its chain seals
pub next_fits : (chain : Chain) (conn cmd : ℕ) (load : List ℕ) → IsTrue (fits_next (turned chain) (sealed_by chain conn cmd load))
next_fits chain conn cmd load = let f : Frame = sealed_by chain conn cmd load in (bytes_decides f.crcs f.crcs).1 refl
