-- Two lists that differ in two adjacent bytes have different CRCs.
use Rattle.std.proofs.Common.{◌≡◌, ℕ, ◌+◌, ◌*◌, ◌/◌, ◌%◌, ◌<◌, List, [], ◌∷◌, ◌++◌, bit_xor, sym, ap, ◌∙◌, arith, lit<}
use Rattle.std.specs.Int.Bits.{xor_zero_r}
use Rattle.std.proofs.lemmas.Bool.{cond_below}
use Rattle.fsoe_crc.specs.Remainder.{fed, fed_bits, bits_of, fed_bytes, sixteen_zeros, rem}
use Rattle.fsoe_crc.proofs.Xor.{xor_cancel_left}
use Rattle.fsoe_crc.proofs.Linear.{byte_xor, byte-below, fed_bytes-append, fed_bytes-below, fed_bytes-injective, fed_bits-injective, sixteen_zeros-are_bits}

-- where no bit leaves, feeding spells a number
pub fed_spells : (v b n : ℕ) → 2 * v + b ≡ n → n < 0x10000 → fed v b ≡ n
unfolding fed
fed_spells v b n e h = rw e (sym (cond_below n 0x10000 n (bit_xor n 0x139B7) h))

pub byte_spells : (n : ℕ) → n < 0x10000 → fed_bits (n / 256) (bits_of (n % 256)) ≡ n
unfolding bits_of
byte_spells n h =
    rw (
      fed_spells (n / 256) (n % 256 / 128 % 2) (n / 128) (omega arith) (omega arith),
      fed_spells (n / 128) (n % 256 / 64 % 2) (n / 64) (omega arith) (omega arith),
      fed_spells (n / 64) (n % 256 / 32 % 2) (n / 32) (omega arith) (omega arith),
      fed_spells (n / 32) (n % 256 / 16 % 2) (n / 16) (omega arith) (omega arith),
      fed_spells (n / 16) (n % 256 / 8 % 2) (n / 8) (omega arith) (omega arith),
      fed_spells (n / 8) (n % 256 / 4 % 2) (n / 4) (omega arith) (omega arith),
      fed_spells (n / 4) (n % 256 / 2 % 2) (n / 2) (omega arith) (omega arith),
    )
    (fed_spells (n / 2) (n % 256 % 2) n (omega arith) h)

pub first_byte : (a : ℕ) → a < 256 → fed_bits 0 (bits_of a) ≡ a
first_byte a h =
    let quotient : a / 256 ≡ 0 = omega arith in
    let rest : a % 256 ≡ a = omega arith in
    sym (ap (λ q. fed_bits q (bits_of a)) quotient) ∙ sym (ap (λ r. fed_bits (a / 256) (bits_of r)) rest) ∙ byte_spells a (omega arith)

pub second_byte : (a b : ℕ) → a < 256 → b < 256 → fed_bits a (bits_of b) ≡ 256 * a + b
second_byte a b ha hb =
    let quotient : (256 * a + b) / 256 ≡ a = omega arith in
    let rest : (256 * a + b) % 256 ≡ b = omega arith in
    sym (ap (λ q. fed_bits q (bits_of b)) quotient) ∙ sym (ap (λ r. fed_bits ((256 * a + b) / 256) (bits_of r)) rest) ∙ byte_spells (256 * a + b) (omega arith)

-- two bytes add themselves to what zeros would make
two_bytes : (v a b : ℕ) → v < 0x10000 → a < 256 → b < 256 → fed_bytes v (a ∷ b ∷ []) ≡ bit_xor (fed_bytes v (0 ∷ 0 ∷ [])) (256 * a + b)
two_bytes v a b hv ha hb =
    let once : fed_bits v (bits_of a) ≡ bit_xor (fed_bits v (bits_of 0)) a =
    ap (λ x. fed_bits x (bits_of a)) (sym (xor_zero_r v)) ∙ byte_xor v 0 0 a hv (lit< tt) ∙ ap (bit_xor (fed_bits v (bits_of 0))) (first_byte a ha) in
    ap (λ x. fed_bits x (bits_of b)) once
    ∙ byte_xor (fed_bits v (bits_of 0)) a 0 b (byte-below v 0 hv) (omega arith)
    ∙ ap (bit_xor (fed_bits (fed_bits v (bits_of 0)) (bits_of 0))) (second_byte a b ha hb)

two_bytes_injective : (v a b c d : ℕ) → v < 0x10000 → a < 256 → b < 256 → c < 256 → d < 256 → fed_bytes v (a ∷ b ∷ []) ≡ fed_bytes v (c ∷ d ∷ []) → (a ≡ c) × (b ≡ d)
two_bytes_injective v a b c d hv ha hb hc hd e =
    let numbers : 256 * a + b ≡ 256 * c + d =
    xor_cancel_left (256 * a + b) (256 * c + d) (fed_bytes v (0 ∷ 0 ∷ [])) (sym (two_bytes v a b hv ha hb) ∙ e ∙ two_bytes v c d hv hc hd) in
    (omega arith, omega arith)

-- The CRC tells two adjacent bytes.
pub rem-adjacent : (before after : List ℕ) (a b c d : ℕ) → a < 256 → b < 256 → c < 256 → d < 256 → rem (before ++ a ∷ b ∷ after) ≡ rem (before ++ c ∷ d ∷ after) → (a ≡ c) × (b ≡ d)
unfolding rem
rem-adjacent before after a b c d ha hb hc hd e =
    let v : ℕ = fed_bytes 0 before in
    let hv : v < 0x10000 = fed_bytes-below 0 before (lit< tt) in
    let x : fed_bytes v (a ∷ b ∷ []) < 0x10000 = fed_bytes-below v (a ∷ b ∷ []) hv in
    let y : fed_bytes v (c ∷ d ∷ []) < 0x10000 = fed_bytes-below v (c ∷ d ∷ []) hv in
    let whole : fed_bytes 0 (before ++ a ∷ b ∷ after) ≡ fed_bytes 0 (before ++ c ∷ d ∷ after) =
    fed_bits-injective _ _ sixteen_zeros (fed_bytes-below 0 (before ++ a ∷ b ∷ after) (lit< tt)) (fed_bytes-below 0 (before ++ c ∷ d ∷ after) (lit< tt)) sixteen_zeros-are_bits e in
    let split : fed_bytes (fed_bytes v (a ∷ b ∷ [])) after ≡ fed_bytes (fed_bytes v (c ∷ d ∷ [])) after =
    sym (fed_bytes-append 0 before (a ∷ b ∷ after)) ∙ whole ∙ fed_bytes-append 0 before (c ∷ d ∷ after) in
    two_bytes_injective v a b c d hv ha hb hc hd (fed_bytes-injective _ _ after x y split)

one_byte_injective : (v a c : ℕ) → v < 0x10000 → a < 256 → c < 256 → fed_bits v (bits_of a) ≡ fed_bits v (bits_of c) → a ≡ c
one_byte_injective v a c hv ha hc e =
    (two_bytes_injective v a 0 c 0 hv ha (lit< tt) hc (lit< tt) (ap (λ x. fed_bits x (bits_of 0)) e)).0

-- The CRC tells one byte.
pub rem-one : (before after : List ℕ) (a c : ℕ) → a < 256 → c < 256 → rem (before ++ a ∷ after) ≡ rem (before ++ c ∷ after) → a ≡ c
unfolding rem
rem-one before after a c ha hc e =
    let v : ℕ = fed_bytes 0 before in
    let hv : v < 0x10000 = fed_bytes-below 0 before (lit< tt) in
    let whole : fed_bytes 0 (before ++ a ∷ after) ≡ fed_bytes 0 (before ++ c ∷ after) =
    fed_bits-injective _ _ sixteen_zeros (fed_bytes-below 0 (before ++ a ∷ after) (lit< tt)) (fed_bytes-below 0 (before ++ c ∷ after) (lit< tt)) sixteen_zeros-are_bits e in
    let split : fed_bytes (fed_bits v (bits_of a)) after ≡ fed_bytes (fed_bits v (bits_of c)) after =
    sym (fed_bytes-append 0 before (a ∷ after)) ∙ whole ∙ fed_bytes-append 0 before (c ∷ after) in
    one_byte_injective v a c hv ha hc (fed_bytes-injective _ _ after (byte-below v a hv) (byte-below v c hv) split)
