-- From which value some bits or bytes more make a given one.
use Rattle.std.proofs.Common.{◌≡◌, ◌≢◌, ℕ, ◌+◌, ◌*◌, ◌/◌, ◌%◌, ◌<◌, inl, inr, List, [], ◌∷◌, bit_xor, refl, sym, ap, ◌∙◌, lit<, arith}
use Rattle.std.specs.Int.Bits.{xor_mod, xor_shr}
use Rattle.std.proofs.lemmas.Bool.{cases_eq, cond_above}
use Rattle.fsoe_crc.specs.Remainder.{fed, fed_bits, bits_of, fed_bytes, sixteen_zeros, rem}
use Rattle.fsoe_crc.proofs.Xor.{below_two, xor_back}
use Rattle.fsoe_crc.proofs.Linear.{AreBits, bits_of-are_bits}
use Rattle.fsoe_crc.proofs.Adjacent.{fed_spells, first_byte, byte_spells}

other_bit : (w b : ℕ) → b < 2 → w % 2 ≢ b → bit_xor w 0x139B7 % 2 ≡ b
other_bit w b hb other =
    elim (below_two (w % 2) (omega arith)) [
      | inl e ↦ xor_mod w 0x139B7 1 ∙ rw e (omega arith)
      | inr e ↦ xor_mod w 0x139B7 1 ∙ rw e (omega arith)
    ]

seventeen : (w : ℕ) → w < 0x10000 → bit_xor w 0x139B7 / 0x10000 ≡ 1
seventeen w hw = let high : w / 0x10000 ≡ 0 = omega arith in xor_shr w 0x139B7 16 ∙ rw high refl

unfed : (w b : ℕ) → w < 0x10000 → b < 2 → (v : ℕ) × (v < 0x10000) × (fed v b ≡ w)
unfolding fed
unfed w b hw hb =
    elim (cases_eq (w % 2) b) [
      | inl same ↦ (w / 2, omega arith, fed_spells (w / 2) b w (omega arith) hw)
      | inr other ↦
          let x : ℕ = bit_xor w 0x139B7 in
          let odd : bit_xor w 0x139B7 % 2 ≡ b = other_bit w b hb other in
          let top : bit_xor w 0x139B7 / 0x10000 ≡ 1 = seventeen w hw in
          let whole : 2 * (x / 2) + b ≡ x = omega arith in
          (x / 2, omega arith, rw whole (sym (cond_above x 0x10000 x (bit_xor x 0x139B7) w (omega arith) (sym (xor_back w 0x139B7)))))
    ]

bits_back : (bits : List ℕ) (w : ℕ) → w < 0x10000 → AreBits bits → (v : ℕ) × (v < 0x10000) × (fed_bits v bits ≡ w)
bits_back [] w hw h = (w, hw, refl)
bits_back (b ∷ bits) w hw h =
    let later = bits_back bits w hw h.1 in
    let first = unfed later.0 b later.1 h.0 in
    (first.0, first.1, ap (λ u. fed_bits u bits) first.2 ∙ later.2)

bytes_back : (bytes : List ℕ) (w : ℕ) → w < 0x10000 → (v : ℕ) × (v < 0x10000) × (fed_bytes v bytes ≡ w)
bytes_back [] w hw = (w, hw, refl)
bytes_back (b ∷ bytes) w hw =
    let later = bytes_back bytes w hw in
    let first = bits_back (bits_of b) later.0 later.1 (bits_of-are_bits b) in
    (first.0, first.1, ap (λ u. fed_bytes u bytes) first.2 ∙ later.2)

nothing_more : fed_bits 0 sixteen_zeros ≡ 0
unfolding sixteen_zeros fed
nothing_more = refl

-- before any bytes two bytes, low byte first, make the CRC 0
pub word_before : (bytes : List ℕ) → (x : ℕ) × (x < 0x10000) × (rem (x % 256 ∷ x / 256 ∷ bytes) ≡ 0)
unfolding rem
word_before bytes =
    let back = bytes_back bytes 0 (lit< tt) in
    let v : ℕ = back.0 in
    let hv : v < 0x10000 = back.1 in
    let x : ℕ = v / 256 + 256 * (v % 256) in
    let low : x % 256 ≡ v / 256 = omega arith in
    let high : x / 256 ≡ v % 256 = omega arith in
    let begun : fed_bits (fed_bits 0 (bits_of (v / 256))) (bits_of (v % 256)) ≡ v = ap (λ u. fed_bits u (bits_of (v % 256))) (first_byte (v / 256) (omega arith)) ∙ byte_spells v hv in (
      x,
      omega arith,
      (λ i. fed_bits (fed_bytes (fed_bits (fed_bits 0 (bits_of (low i))) (bits_of (high i))) bytes) sixteen_zeros)
          ∙ ap (λ u. fed_bits (fed_bytes u bytes) sixteen_zeros) begun ∙ ap (λ u. fed_bits u sixteen_zeros) back.2 ∙ nothing_more,
    )
