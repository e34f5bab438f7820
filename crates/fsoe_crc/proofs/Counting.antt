-- The count of changes, one change more.
use Rattle.std.proofs.Common.{◌≡◌, ℕ, ◌+◌, ◌<◌, ◌≤◌, ◌==◌, cond, map, length, get_or, slice_set, replicate, List, arith}
use Rattle.std.proofs.lemmas.List.{get_or-replicate}
use Rattle.std.proofs.lemmas.List.Sums.{count_by-le-length}
use Rattle.std.proofs.lemmas.List.FromFn.{length-map-range_with_len, sum_by-map-range_with_len_more}
use Rattle.std.proofs.lemmas.Grind.{common_steps}
use Rattle.std.specs.List.{range_with_len}
use Rattle.fsoe_crc.specs.Weights.{bits_turned_by, changes_turning}

pub none_yet : (bits : ℕ) → bits < 33 → get_or (replicate 33 0) bits 0 ≡ changes_turning 0 bits
unfolding changes_turning
none_yet bits h = get_or-replicate 33 bits 0 0 h

pub at_most : (n bits : ℕ) → changes_turning n bits ≤ n
unfolding changes_turning
at_most n bits =
    let few = count_by-le-length (λ turned. turned == bits) (map bits_turned_by (range_with_len 1 n)) in
    omega (arith, few, length-map-range_with_len bits_turned_by 1 n)

one_more : (n bits : ℕ) → changes_turning (n + 1) bits ≡ changes_turning n bits + cond (bits_turned_by (n + 1) == bits) 1 0
unfolding changes_turning
one_more n bits = sum_by-map-range_with_len_more (λ turned. cond (turned == bits) 1 0) bits_turned_by 1 n (n + 1) (omega arith)

-- the count of the bits that the next change turns goes up by one, and the others stay
pub counted : (counts : List ℕ) (n turned bits : ℕ) → length counts ≡ 33 → turned < 33 → turned ≡ bits_turned_by (n + 1) → ((k : ℕ) → k < 33 → get_or counts k 0 ≡ changes_turning n k) → bits < 33
    → get_or (slice_set counts turned (get_or counts turned 0 + 1)) bits 0 ≡ changes_turning (n + 1) bits
counted counts n turned bits long low e so h = grind (arith, common_steps, one_more n bits, so bits h, so turned low)
