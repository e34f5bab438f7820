-- A number of 16 bits with its two bytes swapped.
use Rattle.std.proofs.Common.{◌≡◌, ℕ, ◌+◌, ◌*◌, ◌/◌, ◌%◌, ◌<◌, bit_xor, sym, ap, ◌∙◌, arith}
use Rattle.std.specs.Int.{w16, swap_bytes}
use Rattle.std.specs.Int.Bits.{xor_assoc, xor_comm, xor_lt, xor_shr, xor_mod, xor_block, xor_shifted}

swapped_is : (n : ℕ) → n < 0x10000 → swap_bytes w16 n ≡ n % 256 * 256 + n / 256
swapped_is n h = omega arith

pub swapped_xor : (a b : ℕ) → a < 0x10000 → b < 0x10000 → swap_bytes w16 (bit_xor a b) ≡ bit_xor (swap_bytes w16 a) (swap_bytes w16 b)
swapped_xor a b ha hb =
    swapped_is (bit_xor a b) (xor_lt 16 a b ha hb)
    ∙ rw (xor_mod a b 8, xor_shr a b 8, swapped_is a ha, swapped_is b hb) (sym (xor_block 8 (a % 256) (b % 256) (a / 256) (b / 256) (omega arith) (omega arith)))

-- a byte added to the high byte of a number is added to the low one of the swapped number
pub byte_swapped : (r a : ℕ) → r < 0x10000 → a < 256 → bit_xor (swap_bytes w16 r) a ≡ swap_bytes w16 (bit_xor r (256 * a))
byte_swapped r a hr ha =
    let e : a ≡ swap_bytes w16 (256 * a) = omega arith in
    ap (bit_xor (swap_bytes w16 r)) e ∙ sym (swapped_xor r (256 * a) hr (omega arith))

pub pair_swapped : (r a b : ℕ) → r < 0x10000 → a < 256 → b < 256 → bit_xor (swap_bytes w16 r) (a + b * 256) ≡ swap_bytes w16 (bit_xor (bit_xor r (256 * a)) b)
pair_swapped r a b hr ha hb =
    let parts : a + b * 256 ≡ bit_xor a (b * 256) = (omega arith) ∙ sym (xor_shifted b 8 a ha) ∙ xor_comm (b * 256) a in
    let e : b * 256 ≡ swap_bytes w16 b = omega arith in
    rw (parts, sym (xor_assoc (swap_bytes w16 r) a (b * 256)), byte_swapped r a hr ha, e)
    (sym (swapped_xor (bit_xor r (256 * a)) b (xor_lt 16 r (256 * a) hr (omega arith)) (omega arith)))
