-- The CRC of two parts is made of the CRC of each.
use Rattle.std.proofs.Common.{◌≡◌, ℕ, ◌<◌, List, [], ◌∷◌, ◌++◌, length, bit_xor, replicate, refl, sym, ap, ◌∙◌, lit<}
use Rattle.std.specs.Int.Bits.{xor_zero_l, xor_zero_r}
use Rattle.fsoe_crc.specs.Remainder.{fed_bits, bits_of, fed_bytes, sixteen_zeros, rem}
use Rattle.fsoe_crc.proofs.Linear.{fed_bits-xor, byte_xor, byte-below, fed_bytes-below, fed_bytes-append, sixteen_zeros-are_bits}

-- bytes more of two values together: as many zero bytes more of the one, and the bytes more of the other
fed_bytes-xor : (v w : ℕ) (bytes : List ℕ) → v < 0x10000 → w < 0x10000 → fed_bytes (bit_xor v w) bytes ≡ bit_xor (fed_bytes v (replicate (length bytes) 0)) (fed_bytes w bytes)
fed_bytes-xor v w [] hv hw = refl
fed_bytes-xor v w (b ∷ bytes) hv hw =
    ap (λ x. fed_bytes (fed_bits (bit_xor v w) (bits_of x)) bytes) (sym (xor_zero_l b))
    ∙ ap (λ x. fed_bytes x bytes) (byte_xor v w 0 b hv hw)
    ∙ fed_bytes-xor (fed_bits v (bits_of 0)) (fed_bits w (bits_of b)) bytes (byte-below v 0 hv) (byte-below w b hw)

-- the sixteen zero bits are linear too
pub sixteen-xor : (v w : ℕ) → v < 0x10000 → w < 0x10000 → fed_bits (bit_xor v w) sixteen_zeros ≡ bit_xor (fed_bits v sixteen_zeros) (fed_bits w sixteen_zeros)
unfolding sixteen_zeros
sixteen-xor v w hv hw = fed_bits-xor v w sixteen_zeros sixteen_zeros hv hw sixteen_zeros-are_bits sixteen_zeros-are_bits refl

-- The CRC is linear.
pub rem-two_parts : (first second : List ℕ) → rem (first ++ second) ≡ bit_xor (rem (first ++ replicate (length second) 0)) (rem second)
unfolding rem
rem-two_parts first second =
    let v : ℕ = fed_bytes 0 first in
    let hv : v < 0x10000 = fed_bytes-below 0 first (lit< tt) in
    let zeros : List ℕ = replicate (length second) 0 in
    let whole : fed_bytes 0 (first ++ second) ≡ bit_xor (fed_bytes v zeros) (fed_bytes 0 second) =
    fed_bytes-append 0 first second ∙ ap (λ x. fed_bytes x second) (sym (xor_zero_r v)) ∙ fed_bytes-xor v 0 second hv (lit< tt) in
    ap (λ x. fed_bits x sixteen_zeros) whole
    ∙ sixteen-xor (fed_bytes v zeros) (fed_bytes 0 second) (fed_bytes-below v zeros hv) (fed_bytes-below 0 second (lit< tt))
    ∙ ap (λ x. bit_xor (fed_bits x sixteen_zeros) (fed_bits (fed_bytes 0 second) sixteen_zeros)) (sym (fed_bytes-append 0 first zeros))
