use Rattle.seq_chain.proofs.Common.{IsNumbered, crcs, crcs_from, groups}
use Rattle.std.proofs.Common.{◌≡◌, ℕ, ◌*◌, ◌++◌, drop}
use Rattle.arrayvec.specs.ArrayVec.{array_vec_len}
use Rattle.seq_chain.proofs.cover.write_frame.Given as goal

-- the CRCs so far and those to come are all
abbrev pub invariant-loop-group : goal.invariant-loop-group
invariant-loop-group l = record {
  whole :
      (last conn cmd : ℕ) → IsNumbered l.frame last conn cmd l.load
      → l.crcs.items ++ crcs_from last conn l.frame.number cmd l.group (groups (drop (2 * l.group) l.load)) ≡ crcs last conn l.frame.number cmd l.load;
  len : array_vec_len l.crcs ≡ l.group;
}
