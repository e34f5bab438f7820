-- The CRC by tables of what zero bytes make of a high byte.
use Rattle.std.proofs.Common.{◌≡◌, ℕ, zero, suc, ◌+◌, ◌*◌, ◌/◌, ◌%◌, ◌<◌, List, [], ◌∷◌, ◌++◌, bit_xor, bit_and, refl, sym, ap, ◌∙◌, arith, lit<, add-zero, append_assoc, append-nil, subst, replicate}
use Rattle.std.specs.Int.{w16, swap_bytes}
use Rattle.std.proofs.lemmas.Nat.{and_mask}
use Rattle.std.specs.Int.Bits.{xor_zero_r, xor_shifted, xor_lt, xor_comm}
use Rattle.fsoe_crc.specs.Remainder.{fed_bits, bits_of, fed_bytes, sixteen_zeros, rem, zeros_entry}
use Rattle.fsoe_crc.proofs.Linear.{byte_xor, byte-below, fed_bytes-append, fed_bytes-below}
use Rattle.fsoe_crc.proofs.Adjacent.{first_byte, second_byte}
use Rattle.fsoe_crc.proofs.Swapped.{byte_swapped, pair_swapped}

-- eight zero bits more
pub eight : ℕ → ℕ
eight v = fed_bits v (bits_of 0)

-- a CRC after one byte more
abbrev pub stepped : ℕ → ℕ → ℕ
stepped value byte = eight (bit_xor value (256 * byte))

eight_xor : (v w : ℕ) → v < 0x10000 → w < 0x10000 → eight (bit_xor v w) ≡ bit_xor (eight v) (eight w)
unfolding eight
eight_xor v w hv hw = byte_xor v w 0 0 hv hw

eight_below : (v : ℕ) → v < 0x10000 → eight v < 0x10000
unfolding eight
eight_below v hv = byte-below v 0 hv

-- sixteen are twice eight
sixteen_twice : (v : ℕ) → fed_bits v sixteen_zeros ≡ eight (eight v)
unfolding eight sixteen_zeros bits_of
sixteen_twice v = refl

eight_of_byte : (b : ℕ) → b < 256 → eight b ≡ 256 * b
unfolding eight
eight_of_byte b h = second_byte b 0 h (lit< tt) ∙ add-zero (256 * b)

-- a byte in the place of eight zeros adds itself
byte_adds : (v b : ℕ) → v < 0x10000 → b < 256 → fed_bits v (bits_of b) ≡ bit_xor (eight v) b
unfolding eight
byte_adds v b hv hb =
    ap (λ x. fed_bits x (bits_of b)) (sym (xor_zero_r v)) ∙ byte_xor v 0 0 b hv (lit< tt) ∙ ap (bit_xor (fed_bits v (bits_of 0))) (first_byte b hb)

pub rem-step : (bytes : List ℕ) (b : ℕ) → b < 256 → rem (bytes ++ b ∷ []) ≡ stepped (rem bytes) b
unfolding rem
rem-step bytes b hb =
    let v : ℕ = fed_bytes 0 bytes in
    let hv : v < 0x10000 = fed_bytes-below 0 bytes (lit< tt) in
    let r : ℕ = eight (eight v) in
    let hr : eight (eight v) < 0x10000 = eight_below (eight v) (eight_below v hv) in
    let below : b < 0x10000 = omega arith in
    let high : 256 * b < 0x10000 = omega arith in
    let start : fed_bytes 0 (bytes ++ b ∷ []) ≡ bit_xor (eight v) b = fed_bytes-append 0 bytes (b ∷ []) ∙ byte_adds v b hv hb in
    ap (λ x. fed_bits x sixteen_zeros) start
    ∙ sixteen_twice (bit_xor (eight v) b)
    ∙ ap eight (eight_xor (eight v) b (eight_below v hv) below)
    ∙ ap (λ x. eight (bit_xor (eight (eight v)) x)) (eight_of_byte b hb)
    ∙ ap (λ x. eight (bit_xor x (256 * b))) (sym (sixteen_twice v))

one_is : (h : ℕ) → zeros_entry 1 h ≡ eight (256 * h)
unfolding zeros_entry eight
one_is h = refl

-- eight zero bits by the table
eight_by_table : (f : ℕ) → f < 0x10000 → eight f ≡ bit_xor (f * 256 % 0x10000) (zeros_entry 1 (f / 256))
eight_by_table f hf =
    let parts : bit_xor (f / 256 * 256) (f % 256) ≡ f = xor_shifted (f / 256) 8 (f % 256) (omega arith) ∙ (omega arith) in
    let low : 256 * (f % 256) ≡ f * 256 % 0x10000 = omega arith in
    let high : f / 256 * 256 ≡ 256 * (f / 256) = omega arith in
    sym (ap eight parts)
    ∙ eight_xor (f / 256 * 256) (f % 256) (omega arith) (omega arith)
    ∙ ap (bit_xor (eight (f / 256 * 256))) (eight_of_byte (f % 256) (omega arith) ∙ low)
    ∙ ap (λ x. bit_xor x (f * 256 % 0x10000)) (ap eight high ∙ sym (one_is (f / 256)))
    ∙ xor_comm (zeros_entry 1 (f / 256)) (f * 256 % 0x10000)

-- what the code computes
pub stepped_by_table : (r b f : ℕ) → r < 0x10000 → b < 256 → f ≡ bit_xor (swap_bytes w16 r) b → stepped r b ≡ bit_xor (swap_bytes w16 (f / 256)) (zeros_entry 1 (bit_and f 255))
stepped_by_table r b f hr hb e =
    let whole : ℕ = bit_xor r (256 * b) in
    let below : bit_xor r (256 * b) < 0x10000 = xor_lt 16 r (256 * b) hr (omega arith) in
    let swapped : f ≡ swap_bytes w16 (bit_xor r (256 * b)) = e ∙ byte_swapped r b hr hb in
    let low : bit_xor r (256 * b) * 256 % 0x10000 ≡ swap_bytes w16 (f / 256) = omega arith in
    let high : bit_xor r (256 * b) / 256 ≡ f % 256 = omega arith in
    eight_by_table whole below ∙ ap (λ x. bit_xor x (zeros_entry 1 (whole / 256))) low ∙ ap (λ x. bit_xor (swap_bytes w16 (f / 256)) (zeros_entry 1 x)) (high ∙ sym (and_mask f 8))

-- n zero bytes more
pub eights : ℕ → ℕ → ℕ
eights zero v = v
eights (suc n) v = eights n (eight v)

eights_are : (n v : ℕ) → fed_bytes v (replicate n 0) ≡ eights n v
unfolding eights eight
eights_are zero v = refl
eights_are (suc n) v = eights_are n (fed_bits v (bits_of 0))

eights_xor : (n v w : ℕ) → v < 0x10000 → w < 0x10000 → eights n (bit_xor v w) ≡ bit_xor (eights n v) (eights n w)
unfolding eights
eights_xor zero v w hv hw = refl
eights_xor (suc n) v w hv hw = ap (eights n) (eight_xor v w hv hw) ∙ eights_xor n (eight v) (eight w) (eight_below v hv) (eight_below w hw)

entry_is : (n h : ℕ) → zeros_entry n h ≡ eights n (256 * h)
unfolding zeros_entry
entry_is n h = eights_are n (256 * h)

-- zero bytes by two tables
eights_by_tables : (n f : ℕ) → f < 0x10000 → eights (suc n) f ≡ bit_xor (zeros_entry (suc n) (f / 256)) (zeros_entry n (f % 256))
unfolding eights
eights_by_tables n f hf =
    let parts : bit_xor (f / 256 * 256) (f % 256) ≡ f = xor_shifted (f / 256) 8 (f % 256) (omega arith) ∙ (omega arith) in
    let high : f / 256 * 256 ≡ 256 * (f / 256) = omega arith in
    sym (ap (eights (suc n)) parts)
    ∙ eights_xor (suc n) (f / 256 * 256) (f % 256) (omega arith) (omega arith)
    ∙ ap (λ x. bit_xor x (eights (suc n) (f % 256))) (ap (eights (suc n)) high ∙ sym (entry_is (suc n) (f / 256)))
    ∙ ap (bit_xor (zeros_entry (suc n) (f / 256))) (low (f % 256) (omega arith))
  where
    low : (l : ℕ) → l < 256 → eights (suc n) l ≡ zeros_entry n l
    low l hl = ap (eights n) (eight_of_byte l hl) ∙ sym (entry_is n l)

-- a zero byte more
rem-zero : (bytes : List ℕ) → rem (bytes ++ 0 ∷ []) ≡ eight (rem bytes)
rem-zero bytes = rem-step bytes 0 (lit< tt) ∙ ap eight (xor_zero_r (rem bytes))

rem-zeros : (n : ℕ) (bytes : List ℕ) → rem (bytes ++ replicate n 0) ≡ eights n (rem bytes)
unfolding eights
rem-zeros zero bytes = ap rem (append-nil bytes)
rem-zeros (suc n) bytes = ap rem (sym (append_assoc bytes (0 ∷ []) (replicate n 0))) ∙ rem-zeros n (bytes ++ 0 ∷ []) ∙ ap (eights n) (rem-zero bytes)

-- two bytes more are two zero bytes more of a value to which they are added
rem-two : (bytes : List ℕ) (a b : ℕ) → rem bytes < 0x10000 → a < 256 → b < 256 → rem (bytes ++ a ∷ b ∷ []) ≡ eights 2 (bit_xor (bit_xor (rem bytes) (256 * a)) b)
unfolding eights
rem-two bytes a b hr ha hb =
    let r : ℕ = rem bytes in
    let x : ℕ = bit_xor r (256 * a) in
    let hx : bit_xor (rem bytes) (256 * a) < 0x10000 = xor_lt 16 r (256 * a) hr (omega arith) in
    ap rem (sym (append_assoc bytes (a ∷ []) (b ∷ [])))
    ∙ rem-step (bytes ++ a ∷ []) b hb
    ∙ ap (λ y. stepped y b) (rem-step bytes a ha)
    ∙ ap (λ y. eight (bit_xor (eight x) y)) (sym (eight_of_byte b hb))
    ∙ sym (ap eight (eight_xor x b hx (omega arith)))

two_then : (n v : ℕ) → eights n (eights 2 v) ≡ eights (suc (suc n)) v
unfolding eights
two_then n v = refl

-- what the code computes of two bytes and n zero bytes
pub rem-pair : (n : ℕ) (bytes : List ℕ) (r a b f : ℕ) → r ≡ rem bytes → r < 0x10000 → a < 256 → b < 256 → f ≡ bit_xor (swap_bytes w16 r) (a + b * 256)
    → bit_xor (zeros_entry (suc (suc n)) (bit_and f 255)) (zeros_entry (suc n) (f / 256)) ≡ rem (bytes ++ a ∷ b ∷ replicate n 0)
rem-pair n bytes r a b f e hr ha hb is =
    let whole : ℕ = bit_xor (bit_xor r (256 * a)) b in
    let below : rem bytes < 0x10000 = subst (λ (x : ℕ). x < 0x10000) e hr in
    let fits : bit_xor (bit_xor r (256 * a)) b < 0x10000 = xor_lt 16 (bit_xor r (256 * a)) b (xor_lt 16 r (256 * a) hr (omega arith)) (omega arith) in
    let swapped : f ≡ swap_bytes w16 (bit_xor (bit_xor r (256 * a)) b) = is ∙ pair_swapped r a b hr ha hb in
    let low : f / 256 ≡ bit_xor (bit_xor r (256 * a)) b % 256 = omega arith in
    let high : f % 256 ≡ bit_xor (bit_xor r (256 * a)) b / 256 = omega arith in
    ap (λ x. bit_xor (zeros_entry (suc (suc n)) x) (zeros_entry (suc n) (f / 256))) (and_mask f 8 ∙ high)
    ∙ ap (λ x. bit_xor (zeros_entry (suc (suc n)) (whole / 256)) (zeros_entry (suc n) x)) low
    ∙ sym (eights_by_tables (suc n) whole fits)
    ∙ sym (two_then n whole)
    ∙ ap (λ x. eights n (eights 2 (bit_xor (bit_xor x (256 * a)) b))) e
    ∙ ap (eights n) (sym (rem-two bytes a b below ha hb))
    ∙ sym (rem-zeros n (bytes ++ a ∷ b ∷ []))
    ∙ ap rem (append_assoc bytes (a ∷ b ∷ []) (replicate n 0))
