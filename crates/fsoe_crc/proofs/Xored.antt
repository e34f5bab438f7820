-- The CRCs of two lists of one length: by exclusive-or they give the CRC of what these differ by.
use Rattle.std.proofs.Common.{◌≡◌, ℕ, ◌<◌, List, [], ◌∷◌, ◌++◌, length, bit_xor, refl, sym, ap, ◌∙◌, lit<, arith}
use Rattle.std.specs.Int.Bits.{xor_self}
use Rattle.fsoe_crc.specs.Remainder.{fed_bits, bits_of, fed_bytes, sixteen_zeros, rem}
use Rattle.fsoe_crc.proofs.Linear.{xored, byte_xor, byte-below, fed_bytes-below, fed_bytes-append}
use Rattle.fsoe_crc.proofs.TwoParts.{sixteen-xor}

pub bytes_xored : (v w : ℕ) (xs ys : List ℕ) → v < 0x10000 → w < 0x10000 → length xs ≡ length ys → bit_xor (fed_bytes v xs) (fed_bytes w ys) ≡ fed_bytes (bit_xor v w) (xored xs ys)
bytes_xored v w [] [] hv hw same = refl
bytes_xored v w (x ∷ xs) (y ∷ ys) hv hw same =
    bytes_xored (fed_bits v (bits_of x)) (fed_bits w (bits_of y)) xs ys (byte-below v x hv) (byte-below w y hw) (omega arith)
    ∙ ap (λ u. fed_bytes u (xored xs ys)) (sym (byte_xor v w x y hv hw))
bytes_xored v w [] (y ∷ ys) hv hw same = absurd (omega arith)
bytes_xored v w (x ∷ xs) [] hv hw same = absurd (omega arith)

-- what both lists begin with goes out
pub rem-xored : (begun xs ys : List ℕ) → length xs ≡ length ys → bit_xor (rem (begun ++ xs)) (rem (begun ++ ys)) ≡ rem (xored xs ys)
unfolding rem
rem-xored begun xs ys same =
    let v : ℕ = fed_bytes 0 begun in
    let hv : v < 0x10000 = fed_bytes-below 0 begun (lit< tt) in
    ap (λ x. bit_xor (fed_bits x sixteen_zeros) (fed_bits (fed_bytes 0 (begun ++ ys)) sixteen_zeros)) (fed_bytes-append 0 begun xs)
    ∙ ap (λ y. bit_xor (fed_bits (fed_bytes v xs) sixteen_zeros) (fed_bits y sixteen_zeros)) (fed_bytes-append 0 begun ys)
    ∙ sym (sixteen-xor (fed_bytes v xs) (fed_bytes v ys) (fed_bytes-below v xs hv) (fed_bytes-below v ys hv))
    ∙ ap (λ x. fed_bits x sixteen_zeros) (bytes_xored v v xs ys hv hv same ∙ ap (λ u. fed_bytes u (xored xs ys)) (xor_self v))
