-- Frames whose loads differ in their first group.
use Rattle.seq_chain.proofs.Common.{AreBytes, common, crc_0, fed_bits-below, fed_bytes, fed_bytes-below, first_number, rem-adjacent, rem-xored, sixteen_zeros, sixteen_zeros-are_bits, step_in_last, step_in_load, xor_block, xor_lt, zero_first}
use Rattle.fsoe_crc.specs.Remainder.{computing, rem}
use Rattle.std.proofs.Common.{◌≡◌, ◌≢◌, ℕ, ◌*◌, ◌+◌, ◌<◌, List, [], ◌∷◌, length, bit_xor, refl, sym, ap, ◌∙◌, lit<, arith, rules}
use Rattle.seq_chain.proofs.ToldApart.{one_told, pair_told}

pub first_told : (last conn n cmd : ℕ) (load load' : List ℕ) → length load ≡ length load' → AreBytes load → AreBytes load' → first_number load ≢ first_number load'
    → crc_0 last conn n cmd load ≢ crc_0 last conn n cmd load'
first_told last conn n cmd [] [] same h h' other e = other refl
first_told last conn n cmd (d ∷ []) (d' ∷ []) same h h' other e = other (ap first_number (one_told (common last conn n cmd) 0 d d' (h 0) (h' 0) e))
first_told last conn n cmd (d ∷ b ∷ load) (d' ∷ b' ∷ load') same h h' other e =
    other (ap first_number (pair_told (common last conn n cmd) 0 d b d' b' (h 0) (h 1) (h' 0) (h' 1) e))
first_told last conn n cmd load load' same h h' other e = absurd (omega arith)

rem-below : (bytes : List ℕ) → rem bytes < 65536
unfolding rem
rem-below bytes = fed_bits-below (fed_bytes 0 bytes) sixteen_zeros (fed_bytes-below 0 bytes (lit< tt)) sixteen_zeros-are_bits

-- the CRC of the bytes 85 99 and of three zeros
pub step_is : rem (0x85 ∷ 0x99 ∷ 0 ∷ 0 ∷ 0 ∷ []) ≡ step_in_last
unfolding computing
step_is = refl

-- where the CRC_0 of two loads differ by the step, their first groups do
pub differ_in_load : (last conn n cmd : ℕ) (load load' : List ℕ) → length load ≡ length load' → AreBytes load → AreBytes load'
    → bit_xor (crc_0 last conn n cmd load) (crc_0 last conn n cmd load') ≡ step_in_last → bit_xor (first_number load) (first_number load') ≡ step_in_load
differ_in_load last conn n cmd [] [] same h h' e = absurd (cc e)
differ_in_load last conn n cmd (d ∷ []) (d' ∷ []) same h h' e =
    let x : ℕ = bit_xor d d' in
    let hx : bit_xor d d' < 256 = xor_lt 8 d d' (h 0) (h' 0) in
    let made : rem (x ∷ 0 ∷ 0 ∷ 0 ∷ []) ≡ step_in_last = sym (rem-xored (common last conn n cmd) (d ∷ 0 ∷ 0 ∷ 0 ∷ []) (d' ∷ 0 ∷ 0 ∷ 0 ∷ []) refl) ∙ e in
    let both : (◌≡◌ {A = ℕ} 0 0x85) × (x ≡ 0x99) = rem-adjacent [] (0 ∷ 0 ∷ 0 ∷ []) 0 x 0x85 0x99 (lit< tt) hx (lit< tt) (lit< tt) (zero_first x ∙ made ∙ sym step_is) in
    absurd (cc both.0)
differ_in_load last conn n cmd (d ∷ b ∷ load) (d' ∷ b' ∷ load') same h h' e =
    let x : ℕ = bit_xor d d' in
    let y : ℕ = bit_xor b b' in
    let hx : bit_xor d d' < 256 = xor_lt 8 d d' (h 0) (h' 0) in
    let hy : bit_xor b b' < 256 = xor_lt 8 b b' (h 1) (h' 1) in
    let made : rem (x ∷ y ∷ 0 ∷ 0 ∷ 0 ∷ []) ≡ step_in_last = sym (rem-xored (common last conn n cmd) (d ∷ b ∷ 0 ∷ 0 ∷ 0 ∷ []) (d' ∷ b' ∷ 0 ∷ 0 ∷ 0 ∷ []) refl) ∙ e in
    let both : (x ≡ 0x85) × (y ≡ 0x99) = rem-adjacent [] (0 ∷ 0 ∷ 0 ∷ []) x y 0x85 0x99 hx hy (lit< tt) (lit< tt) (made ∙ sym step_is) in
    let first : d + 256 * b ≡ b * 256 + d = omega arith in
    let second : d' + 256 * b' ≡ b' * 256 + d' = omega arith in
    rw (first, second, xor_block 8 b b' d d' (h 0) (h' 0), both.1, both.0)
differ_in_load last conn n cmd load load' same h h' e = absurd (omega arith)

-- the CRC_0 of a load has 16 bits
pub crc_0_within : (last conn n cmd : ℕ) (load : List ℕ) → crc_0 last conn n cmd load < 65536
crc_0_within last conn n cmd load = search (rules, rem-below)
