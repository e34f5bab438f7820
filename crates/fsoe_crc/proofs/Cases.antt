-- Sums over all changes of some bits, by what each bit alone makes of a CRC.
use Rattle.std.proofs.Common.{◌≡◌, ℕ, zero, suc, ◌+◌, ◌-◌, ◌*◌, ◌/◌, ◌%◌, ◌^◌, ◌<◌, List, [], ◌∷◌, map, sum, bit_xor, count_ones, refl, sym, ap, ◌∙◌, lit<, arith, pow-suc, add-one}
use Rattle.std.proofs.Math.Nat.{pow-zero, sub-zero}
use Rattle.std.proofs.lemmas.List.FromFn.{sum_by-map-range_with_len_more}
use Rattle.std.specs.List.{range_with_len}
use Rattle.std.specs.Int.Bits.{xor_assoc, xor_comm, xor_lt, xor_shifted, xor_zero_l, xor_zero_r}
use Rattle.std.specs.Int.Count.{ones, ones_in, ones_step}
use Rattle.std.proofs.lemmas.Nat.{ones_le_self}
use Rattle.fsoe_crc.specs.Remainder.{computing, fed_bytes, rem, sixteen_zeros}
use Rattle.fsoe_crc.specs.Weights.{bits_turned_by, cases_passing, cases_turning}
use Rattle.fsoe_crc.proofs.Far.{ones_below, columns, IsLinear, none, doubled}
use Rattle.fsoe_crc.proofs.Linear.{fed_bits-below, fed_bytes-below, sixteen_zeros-are_bits}
use Rattle.fsoe_crc.proofs.Weight.{bytes_at, crc_at, crc_at-linear, pair_at, pair_places}

-- the sum of f over the numbers below this one
below : (ℕ → ℕ) → ℕ → ℕ
below f zero = 0
below f (suc n) = below f n + f n

below_same : (f g : ℕ → ℕ) (n : ℕ) → ((m : ℕ) → m < n → f m ≡ g m) → below f n ≡ below g n
unfolding below
below_same f g zero h = refl
below_same f g (suc n) h = rw (below_same f g n (λ m l. h m (omega arith)), h n (omega arith)) refl

-- each number doubled, and each doubled and one more
below_doubled : (f : ℕ → ℕ) (n : ℕ) → below f (n * 2) ≡ below (λ m. f (m * 2)) n + below (λ m. f (m * 2 + 1)) n
unfolding below
below_doubled f zero = refl
below_doubled f (suc n) =
    let both : suc n * 2 ≡ suc (suc (n * 2)) = omega arith in
    let more : suc (n * 2) ≡ n * 2 + 1 = omega arith in
    ap (below f) both ∙ ap (λ x. below f (n * 2) + f (n * 2) + f x) more ∙ (omega (arith, below_doubled f n))

-- the sum of what f gives for the turned bits, over all picks of these columns
unfoldable pub over_picks : (ℕ → ℕ) → List ℕ → ℕ → ℕ → ℕ
unfolding ones_below
over_picks f [] turned value = f (turned + ones_below 16 value)
over_picks f (column ∷ more) turned value = over_picks f more turned value + over_picks f more (suc turned) (bit_xor value column)

all_ones : (k n : ℕ) → n < 2 ^ k → ones_below k n ≡ count_ones n
unfolding ones_below ones
all_ones zero n h = let nothing : n ≡ 0 = omega arith in rw nothing refl
all_ones (suc k) n h = omega (arith, ones_step n, all_ones k (n / 2) (omega (arith, pow-suc 2 k)))

even_ones : (m : ℕ) → count_ones (m * 2) ≡ count_ones m
even_ones m =
    let low : m * 2 % 2 ≡ 0 = omega arith in
    let half : m * 2 / 2 ≡ m = omega arith in
    ones_step (m * 2) ∙ rw (low, half) (omega arith)

odd_ones : (m : ℕ) → count_ones (m * 2 + 1) ≡ suc (count_ones m)
odd_ones m =
    let low : (m * 2 + 1) % 2 ≡ 1 = omega arith in
    let half : (m * 2 + 1) / 2 ≡ m = omega arith in
    ones_step (m * 2 + 1) ∙ rw (low, half) (omega arith)

odd_made : (made : ℕ → ℕ) (value m : ℕ) → IsLinear made → bit_xor value (made (m * 2 + 1)) ≡ bit_xor (bit_xor value (made 1)) (made (m * 2))
odd_made made value m linear =
    ap (λ x. bit_xor value (made x)) (sym (xor_shifted m 1 1 (lit< tt))) ∙ ap (bit_xor value) (linear (m * 2) 1 ∙ xor_comm (made (m * 2)) (made 1)) ∙ sym (xor_assoc value (made 1) (made (m * 2)))

-- what f gives for the bits that are 1 in m and in what m makes of a value, and some more
given : (ℕ → ℕ) → (ℕ → ℕ) → ℕ → ℕ → ℕ → ℕ
given f made more value m = f (more + (count_ones m + count_ones (bit_xor value (made m))))

given_none : (f made : ℕ → ℕ) (more value : ℕ) → IsLinear made → value < 65536 → given f made more value 0 ≡ f (more + ones_below 16 value)
unfolding given
given_none f made more value linear h =
    ap (λ n. f (more + n)) (rw (none made linear, xor_zero_r value) (omega (arith, ones_le_self 0, all_ones 16 value h)))

given_even : (f made : ℕ → ℕ) (more value m : ℕ) → given f made more value (m * 2) ≡ given f (λ m. made (m * 2)) more value m
unfolding given
given_even f made more value m = rw (even_ones m) refl

given_odd : (f made : ℕ → ℕ) (more value m : ℕ) → IsLinear made → given f made more value (m * 2 + 1) ≡ given f (λ m. made (m * 2)) (suc more) (bit_xor value (made 1)) m
unfolding given
given_odd f made more value m linear = rw (odd_ones m, odd_made made value m linear) (ap f (omega arith))

picked : (f made : ℕ → ℕ) (k more value : ℕ) → IsLinear made → ((m : ℕ) → made m < 65536) → value < 65536 → below (given f made more value) (2 ^ k) ≡ over_picks f (columns made k) more value
unfolding over_picks columns below
picked f made zero more value linear low h = omega (arith, given_none f made more value linear h)
picked f made (suc k) more value linear low h =
    let half : ℕ → ℕ = λ m. made (m * 2) in
    let even = below_same _ _ (2 ^ k) (λ m _. given_even f made more value m) ∙ picked f half k more value (doubled made linear) (λ m. low (m * 2)) h in
    let odd = below_same _ _ (2 ^ k) (λ m _. given_odd f made more value m linear) ∙ picked f half k (suc more) (bit_xor value (made 1)) (doubled made linear) (λ m. low (m * 2)) (xor_lt 16 value (made 1) h (low 1)) in
    ap (below (given f made more value)) (pow-suc 2 k) ∙ below_doubled (given f made more value) (2 ^ k) ∙ (λ i. even i + odd i)

one_change_more : (f : ℕ → ℕ) (n : ℕ) → sum (map f (range_with_len 1 (suc n))) ≡ sum (map f (range_with_len 1 n)) + f (suc n)
one_change_more f n = ap (λ x. sum (map f (range_with_len 1 x))) (sym (add-one n)) ∙ sum_by-map-range_with_len_more (λ x. x) f 1 n (suc n) (omega arith)

summed : (f : ℕ → ℕ) (n : ℕ) → below f (suc n) ≡ f 0 + sum (map f (range_with_len 1 n))
unfolding below
summed f zero = omega arith
summed f (suc n) = omega (arith, summed f n, one_change_more f n)

crc_below : (ks : List ℕ) (m : ℕ) → crc_at ks m < 65536
unfolding crc_at rem
crc_below ks m = fed_bits-below (fed_bytes 0 (bytes_at ks m)) sixteen_zeros (fed_bytes-below 0 (bytes_at ks m) (lit< tt)) sixteen_zeros-are_bits

of_change : (f : ℕ → ℕ) (m : ℕ) → m < 65536 → f (bits_turned_by m) ≡ given f (crc_at pair_places) 0 0 m
unfolding given crc_at
of_change f m h =
    let whole : m ≡ m / 256 * 256 + m % 256 = omega arith in
    let bytes : bytes_at pair_places m ≡ m / 256 ∷ m % 256 ∷ 0 ∷ 0 ∷ 0 ∷ [] = ap (bytes_at pair_places) whole ∙ pair_at (m / 256) (m % 256) (omega arith) (omega arith) in
    rw (xor_zero_l (crc_at pair_places m), bytes) (ap f (omega arith))

-- what f gives for all changes of k bits, and for no change
over_changes : (f : ℕ → ℕ) (k n : ℕ) → suc n ≡ 2 ^ k → n < 65536 → f (bits_turned_by 0) + sum (map (λ change. f (bits_turned_by change)) (range_with_len 1 n)) ≡ over_picks f (columns (crc_at pair_places) k) 0 0
over_changes f k n all h =
    sym (summed (λ change. f (bits_turned_by change)) n)
    ∙ below_same _ _ (suc n) (λ m l. of_change f m (omega arith))
    ∙ ap (below (given f (crc_at pair_places) 0 0)) all
    ∙ picked f (crc_at pair_places) k 0 0 (crc_at-linear pair_places) (crc_below pair_places) (lit< tt)

nothing_turned : bits_turned_by 0 ≡ 0
unfolding computing ones ones_in
nothing_turned = refl

-- how many cases pass, by the picks of columns, among which is that of none
passing : (k most bits turned kept total : ℕ) → suc most ≡ 2 ^ k → most < 65536 → over_picks (cases_turning bits turned kept) (columns (crc_at pair_places) k) 0 0 ≡ kept ^ bits + total → cases_passing most bits turned kept ≡ total
unfolding cases_passing
passing k most bits turned kept total all h e =
    let nothing : cases_turning bits turned kept (bits_turned_by 0) ≡ kept ^ bits = ap (cases_turning bits turned kept) nothing_turned ∙ rw (pow-zero turned, sub-zero bits) (omega arith) in
    omega (arith, over_changes (cases_turning bits turned kept) k most all h, e, nothing)

pub byte_third : cases_passing 255 24 1 2 ≡ 4728320
unfolding over_picks columns crc_at computing
byte_third = passing 8 255 24 1 2 4728320 refl (lit< tt) refl

pub pair_third : cases_passing 65535 32 1 2 ≡ 27924317168
unfolding over_picks columns crc_at computing
pair_third = passing 16 65535 32 1 2 27924317168 refl (lit< tt) refl

one_pow : (n : ℕ) → 1 ^ n ≡ 1
one_pow zero = refl
one_pow (suc n) = pow-suc 1 n ∙ rw (one_pow n) refl

-- where a bit is turned in one case of two, each change passes in one case of all
pub each_once : (most bits : ℕ) → cases_passing most bits 1 1 ≡ most
unfolding cases_passing
each_once zero bits = refl
each_once (suc most) bits =
    let once : (change : ℕ) → cases_turning bits 1 1 (bits_turned_by change) ≡ 1 = λ change. rw (one_pow (bits_turned_by change), one_pow (bits - bits_turned_by change)) refl in
    omega (arith, each_once most bits, once (suc most), one_change_more (λ change. cases_turning bits 1 1 (bits_turned_by change)) most)

pub byte_falls : cases_passing 255 24 1 1 * 3 ^ 24 < cases_passing 255 24 1 2 * 2 ^ 24
byte_falls = rw (each_once 255 24, byte_third) (lit< tt)

pub pair_rises : cases_passing 65535 32 1 2 * 2 ^ 32 < cases_passing 65535 32 1 1 * 3 ^ 32
pair_rises = rw (each_once 65535 32, pair_third) (lit< tt)

pub byte_above : 3 ^ 24 < cases_passing 255 24 1 2 * 2 ^ 16
byte_above = rw byte_third (lit< tt)
