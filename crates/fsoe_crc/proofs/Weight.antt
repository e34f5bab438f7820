-- In how many bits data with their CRC differ from other data with theirs.
use Rattle.std.proofs.Common.{◌≡◌, ◌≢◌, ℕ, ◌+◌, ◌*◌, ◌/◌, ◌%◌, ◌^◌, ◌<◌, ◌≤◌, List, [], ◌∷◌, ◌++◌, length, suc, bit_xor, count_ones, true, refl, sym, ap, ◌∙◌, lit<, arith}
use Rattle.std.proofs.lemmas.Nat.{ones_le_self}
use Rattle.std.specs.Int.Bits.{xor_shr, xor_mod, xor_lt}
use lib.Count.{ones, ones_in, ones_cat}
use Rattle.fsoe_crc.specs.Remainder.{computing, rem}
use Rattle.fsoe_crc.specs.Turned.{turned_bits}
use Rattle.fsoe_crc.specs.Weights.{bits_turned_by}
use Rattle.fsoe_crc.proofs.Xor.{xor_zero_eq}
use Rattle.fsoe_crc.proofs.Linear.{xored}
use Rattle.fsoe_crc.proofs.Xored.{rem-xored}
use Rattle.fsoe_crc.proofs.Far.{ones_below, columns, far, all_far, IsLinear, all_enough, far_enough}

-- the bytes of a number that begin at these bits of it
abbrev pub bytes_at : List ℕ → ℕ → List ℕ
bytes_at [] m = []
bytes_at (k ∷ ks) m = m / 2 ^ k % 256 ∷ bytes_at ks m

unfoldable pub crc_at : List ℕ → ℕ → ℕ
crc_at ks m = rem (bytes_at ks m)

bytes_at-xored : (ks : List ℕ) (m n : ℕ) → bytes_at ks (bit_xor m n) ≡ xored (bytes_at ks m) (bytes_at ks n)
bytes_at-xored [] m n = refl
bytes_at-xored (k ∷ ks) m n = rw (xor_shr m n k, xor_mod (m / 2 ^ k) (n / 2 ^ k) 8) (ap (λ xs. bit_xor (m / 2 ^ k % 256) (n / 2 ^ k % 256) ∷ xs) (bytes_at-xored ks m n))

bytes_at-length : (ks : List ℕ) (m n : ℕ) → length (bytes_at ks m) ≡ length (bytes_at ks n)
bytes_at-length [] m n = refl
bytes_at-length (k ∷ ks) m n = ap suc (bytes_at-length ks m n)

pub crc_at-linear : (ks : List ℕ) → IsLinear (crc_at ks)
unfolding crc_at
crc_at-linear ks m n = ap rem (bytes_at-xored ks m n) ∙ sym (rem-xored [] (bytes_at ks m) (bytes_at ks n) (bytes_at-length ks m n))

-- of numbers of k bits, but 0, and the CRC of such bytes of theirs
pub weight : (ks bytes : List ℕ) (k n m : ℕ) → all_far (columns (crc_at ks) k) n ≡ true → m < 2 ^ k → m ≢ 0 → bytes_at ks m ≡ bytes → n < count_ones m + count_ones (rem bytes)
unfolding crc_at
weight ks bytes k n m all h some e = rw (sym e) (all_enough (crc_at ks) k n m (crc_at-linear ks) h some all)

-- where the bytes of a pair begin, if the pair is one number, and those of three zeros after it
abbrev pub pair_places : List ℕ
pair_places = 8 ∷ 0 ∷ 16 ∷ 16 ∷ 16 ∷ []

-- what each bit of two data bytes makes of a CRC
unfoldable pub pair_columns : List ℕ
unfolding columns crc_at
pair_columns = columns (crc_at pair_places) 16

pair_computed : all_far (columns (crc_at pair_places) 16) 5 ≡ true
unfolding all_far far ones_below columns crc_at computing
pair_computed = refl

-- two bytes as one number
pub pair_at : (x y : ℕ) → x < 256 → y < 256 → bytes_at pair_places (x * 256 + y) ≡ x ∷ y ∷ 0 ∷ 0 ∷ 0 ∷ []
pair_at x y hx hy =
    let m : ℕ = x * 256 + y in
    let high : m / 2 ^ 8 % 256 ≡ x = omega arith in
    let low : m / 2 ^ 0 % 256 ≡ y = omega arith in
    let none : m / 2 ^ 16 % 256 ≡ 0 = omega arith in
    λ i. high i ∷ low i ∷ none i ∷ none i ∷ none i ∷ []

-- of any two bytes, and of their CRC together with a value
pub pair_with : (n value x y : ℕ) → x < 256 → y < 256 → far pair_columns n value ≡ true → n ≤ count_ones x + count_ones y + count_ones (bit_xor value (rem (x ∷ y ∷ 0 ∷ 0 ∷ 0 ∷ [])))
unfolding pair_columns crc_at
pair_with n value x y hx hy e =
    rw (sym (ones_cat 8 x y hy), sym (pair_at x y hx hy)) (far_enough (crc_at pair_places) 16 n (x * 256 + y) value (crc_at-linear pair_places) (omega arith) e)

six : (x y : ℕ) → x < 256 → y < 256 → (x ≡ 0 → y ≢ 0) → 6 ≤ count_ones x + count_ones y + count_ones (rem (x ∷ y ∷ 0 ∷ 0 ∷ 0 ∷ []))
six x y hx hy some =
    rw (sym (ones_cat 8 x y hy)) (weight _ (x ∷ y ∷ 0 ∷ 0 ∷ 0 ∷ []) 16 5 (x * 256 + y) pair_computed (omega arith) (λ e. some (omega arith) (omega arith)) (pair_at x y hx hy))

pub pair_turned : (before : List ℕ) (a b c d : ℕ) → a < 256 → b < 256 → c < 256 → d < 256 → (a ≡ c → b ≢ d)
    → 6 ≤ turned_bits a c + turned_bits b d + turned_bits (rem (before ++ a ∷ b ∷ 0 ∷ 0 ∷ 0 ∷ [])) (rem (before ++ c ∷ d ∷ 0 ∷ 0 ∷ 0 ∷ []))
pair_turned before a b c d ha hb hc hd other =
    rw (rem-xored before (a ∷ b ∷ 0 ∷ 0 ∷ 0 ∷ []) (c ∷ d ∷ 0 ∷ 0 ∷ 0 ∷ []) refl)
    (six (bit_xor a c) (bit_xor b d) (xor_lt 8 a c ha hc) (xor_lt 8 b d hb hd) (λ e f. other (xor_zero_eq a c e) (xor_zero_eq b d f)))

-- a zero in front is nothing to a CRC
pub zero_first : (x : ℕ) → rem (0 ∷ x ∷ 0 ∷ 0 ∷ 0 ∷ []) ≡ rem (x ∷ 0 ∷ 0 ∷ 0 ∷ [])
unfolding computing
zero_first x = refl

pub byte_turned : (before : List ℕ) (a c : ℕ) → a < 256 → c < 256 → a ≢ c
    → 6 ≤ turned_bits a c + turned_bits (rem (before ++ a ∷ 0 ∷ 0 ∷ 0 ∷ [])) (rem (before ++ c ∷ 0 ∷ 0 ∷ 0 ∷ []))
byte_turned before a c ha hc other =
    rw (rem-xored before (a ∷ 0 ∷ 0 ∷ 0 ∷ []) (c ∷ 0 ∷ 0 ∷ 0 ∷ []) refl)
    (rw (sym (zero_first (bit_xor a c))) (omega (arith, ones_le_self 0, six 0 (bit_xor a c) (lit< tt) (xor_lt 8 a c ha hc) (λ e f. other (xor_zero_eq a c f)))))

-- a pair and its CRC that reach six
pub six_reached : turned_bits 0x2C 0 + turned_bits 4 0 + turned_bits (rem (0x2C ∷ 4 ∷ 0 ∷ 0 ∷ 0 ∷ [])) (rem (0 ∷ 0 ∷ 0 ∷ 0 ∷ 0 ∷ [])) ≡ 6
unfolding computing ones ones_in
six_reached = refl

change_of : (x y : ℕ) → x < 256 → y < 256 → count_ones x + count_ones y + count_ones (rem (x ∷ y ∷ 0 ∷ 0 ∷ 0 ∷ [])) ≡ bits_turned_by (x * 256 + y)
change_of x y hx hy =
    let high : (x * 256 + y) / 256 ≡ x = omega arith in
    let low : (x * 256 + y) % 256 ≡ y = omega arith in
    rw (high, low, ones_cat 8 x y hy) refl

pub pair_change : (before : List ℕ) (a b c d : ℕ) → a < 256 → b < 256 → c < 256 → d < 256
    → turned_bits a c + turned_bits b d + turned_bits (rem (before ++ a ∷ b ∷ 0 ∷ 0 ∷ 0 ∷ [])) (rem (before ++ c ∷ d ∷ 0 ∷ 0 ∷ 0 ∷ [])) ≡ bits_turned_by (bit_xor a c * 256 + bit_xor b d)
pair_change before a b c d ha hb hc hd =
    rw (rem-xored before (a ∷ b ∷ 0 ∷ 0 ∷ 0 ∷ []) (c ∷ d ∷ 0 ∷ 0 ∷ 0 ∷ []) refl) (change_of (bit_xor a c) (bit_xor b d) (xor_lt 8 a c ha hc) (xor_lt 8 b d hb hd))

pub byte_change : (before : List ℕ) (a c : ℕ) → a < 256 → c < 256
    → turned_bits a c + turned_bits (rem (before ++ a ∷ 0 ∷ 0 ∷ 0 ∷ [])) (rem (before ++ c ∷ 0 ∷ 0 ∷ 0 ∷ [])) ≡ bits_turned_by (bit_xor a c)
byte_change before a c ha hc =
    let low = xor_lt 8 a c ha hc in
    let high : bit_xor a c / 256 ≡ 0 = omega arith in
    let same : bit_xor a c % 256 ≡ bit_xor a c = omega arith in
    rw (rem-xored before (a ∷ 0 ∷ 0 ∷ 0 ∷ []) (c ∷ 0 ∷ 0 ∷ 0 ∷ []) refl) (ap (λ r. count_ones (bit_xor a c) + count_ones r) (sym (zero_first (bit_xor a c)) ∙ ap (λ x. rem (x ∷ bit_xor a c ∷ 0 ∷ 0 ∷ 0 ∷ [])) (sym high) ∙ ap (λ x. rem (bit_xor a c / 256 ∷ x ∷ 0 ∷ 0 ∷ 0 ∷ [])) (sym same)))
