-- How many bits are 1 of a number and of what a linear function makes of it.
use Rattle.std.proofs.Common.{◌≡◌, ◌≢◌, ℕ, zero, suc, ◌+◌, ◌*◌, ◌/◌, ◌%◌, ◌^◌, ◌<◌, ◌≤◌, List, [], ◌∷◌, Bool, true, ◌&&◌, inl, inr, bit_xor, count_ones, nat_le, sym, ap, ◌∙◌, lit<, arith, add-zero, pow-suc}
use Rattle.std.proofs.lemmas.Bool.{leb-true, and_parts}
use Rattle.std.specs.Int.Bits.{xor_self, xor_comm, xor_zero_r, xor_block, xor_assoc, xor_shifted}
use Rattle.std.specs.Int.Count.{ones_step}
use Rattle.fsoe_crc.proofs.Xor.{below_two}

-- how many of the k lowest bits are 1
unfoldable pub ones_below : ℕ → ℕ → ℕ
ones_below zero n = 0
ones_below (suc k) n = n % 2 + ones_below k (n / 2)

ones_below-le : (k n : ℕ) → ones_below k n ≤ count_ones n
unfolding ones_below
ones_below-le zero n = omega arith
ones_below-le (suc k) n = omega (arith, ones_step n, ones_below-le k (n / 2))

-- what a function makes of each of k bits alone, lowest first
unfoldable pub columns : (ℕ → ℕ) → ℕ → List ℕ
columns made zero = []
columns made (suc k) = made 1 ∷ columns (λ m. made (m * 2)) k

-- whichever of these columns are picked: they and the bits that are 1 of the value, with which they go together, are at
-- least n
unfoldable pub far : List ℕ → ℕ → ℕ → Bool
unfolding ones_below
far [] n value = nat_le n (ones_below 16 value)
far (column ∷ more) zero value = true
far (column ∷ more) (suc n) value = far more (suc n) value && far more n (bit_xor value column)

-- the same where at least one is picked, which isn't counted
unfoldable pub all_far : List ℕ → ℕ → Bool
unfolding far
all_far [] n = true
all_far (column ∷ more) n = far more n column && all_far more n

-- two numbers together make what both make
abbrev pub IsLinear : (ℕ → ℕ) → Type 0
IsLinear made = (m n : ℕ) → made (bit_xor m n) ≡ bit_xor (made m) (made n)

pub doubled : (made : ℕ → ℕ) → IsLinear made → IsLinear (λ m. made (m * 2))
doubled made linear m n =
    let twice : bit_xor (m * 2 + 0) (n * 2 + 0) ≡ bit_xor m n * 2 + 0 = xor_block 1 m n 0 0 (lit< tt) (lit< tt) in
    ap made (sym (add-zero (bit_xor m n * 2)) ∙ sym twice ∙ ap (bit_xor (m * 2 + 0)) (add-zero (n * 2)) ∙ ap (λ x. bit_xor x (n * 2)) (add-zero (m * 2)))
    ∙ linear (m * 2) (n * 2)

pub none : (made : ℕ → ℕ) → IsLinear made → made 0 ≡ 0
none made linear = linear 0 0 ∙ xor_self (made 0)

made_even : (made : ℕ → ℕ) (m : ℕ) → m % 2 ≡ 0 → made m ≡ made (m / 2 * 2)
made_even made m e = let twice : m ≡ m / 2 * 2 = omega arith in ap made twice

made_odd : (made : ℕ → ℕ) (m : ℕ) → IsLinear made → m % 2 ≡ 1 → made m ≡ bit_xor (made 1) (made (m / 2 * 2))
made_odd made m linear e =
    let more : m / 2 * 2 + 1 ≡ m = omega arith in
    ap made (sym (xor_shifted (m / 2) 1 1 (lit< tt) ∙ more)) ∙ linear (m / 2 * 2) 1 ∙ xor_comm (made (m / 2 * 2)) (made 1)

pub far_enough : (made : ℕ → ℕ) (k n m value : ℕ) → IsLinear made → m < 2 ^ k → far (columns made k) n value ≡ true → n ≤ count_ones m + count_ones (bit_xor value (made m))
unfolding far columns
far_enough made zero n m value linear h e =
    let nothing : m ≡ 0 = omega arith in
    let same : bit_xor value (made m) ≡ value = ap (λ x. bit_xor value (made x)) nothing ∙ ap (bit_xor value) (none made linear) ∙ xor_zero_r value in
    rw same (omega (arith, leb-true n (ones_below 16 value) e, ones_below-le 16 value))
far_enough made (suc k) zero m value linear h e = omega arith
far_enough made (suc k) (suc n) m value linear h e =
    let half : m / 2 < 2 ^ k = omega (arith, pow-suc 2 k) in
    let next : IsLinear (λ x. made (x * 2)) = doubled made linear in
    let both = and_parts (far (columns (λ x. made (x * 2)) k) (suc n) value) (far (columns (λ x. made (x * 2)) k) n (bit_xor value (made 1))) e in
    elim (below_two (m % 2) (omega arith)) [
      | inl even ↦ rw (made_even made m even) (omega (arith, ones_step m, far_enough (λ x. made (x * 2)) k (suc n) (m / 2) value next half both.0))
      | inr odd ↦
          let there : bit_xor value (made m) ≡ bit_xor (bit_xor value (made 1)) (made (m / 2 * 2)) = ap (bit_xor value) (made_odd made m linear odd) ∙ sym (xor_assoc value (made 1) (made (m / 2 * 2))) in
          rw there (omega (arith, odd, ones_step m, far_enough (λ x. made (x * 2)) k n (m / 2) (bit_xor value (made 1)) next half both.1))
    ]

pub all_enough : (made : ℕ → ℕ) (k n m : ℕ) → IsLinear made → m < 2 ^ k → m ≢ 0 → all_far (columns made k) n ≡ true → n < count_ones m + count_ones (made m)
unfolding all_far columns
all_enough made zero n m linear h some e = absurd (some (omega arith))
all_enough made (suc k) n m linear h some e =
    let half : m / 2 < 2 ^ k = omega (arith, pow-suc 2 k) in
    let next : IsLinear (λ x. made (x * 2)) = doubled made linear in
    let both = and_parts (far (columns (λ x. made (x * 2)) k) n (made 1)) (all_far (columns (λ x. made (x * 2)) k) n) e in
    elim (below_two (m % 2) (omega arith)) [
      | inl even ↦ rw (made_even made m even) (omega (arith, ones_step m, all_enough (λ x. made (x * 2)) k n (m / 2) next half (λ e. some (omega arith)) both.1))
      | inr odd ↦ rw (made_odd made m linear odd) (omega (arith, odd, ones_step m, far_enough (λ x. made (x * 2)) k n (m / 2) (made 1) next half both.0))
    ]
