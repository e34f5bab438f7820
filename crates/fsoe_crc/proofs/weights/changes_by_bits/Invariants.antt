use Rattle.std.proofs.Common.{◌≡◌, ◌<◌, ℕ, get_or, length}
use Rattle.fsoe_crc.specs.Weights.{changes_turning}
use Rattle.fsoe_crc.proofs.weights.changes_by_bits.Given as goal

abbrev pub invariant-loop-before : goal.invariant-loop-before
invariant-loop-before l = record {
  long : length l.counts ≡ 33;
  counted : (bits : ℕ) → bits < 33 → get_or l.counts bits 0 ≡ changes_turning l.before bits;
}
