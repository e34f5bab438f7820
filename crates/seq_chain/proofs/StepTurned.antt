-- In how many bits two frames differ where the second step of the number comes for one of them alone.
use Rattle.seq_chain.proofs.Common.{AreBytes, DifferAsData, DifferInGroups, Frame, Link, SteppedAlike, agree_below_at, cases_eq, cover, crcs, fits, low_high, next, number_of, rem, steps_again, turned_bits, turned_in_frames, turned_within, xor_block, xor_comm, xor_lt, xor_self}
use lib.Count.{ones, ones_in}
use Rattle.fsoe_crc.specs.Remainder.{computing}
use Rattle.fsoe_crc.proofs.Far.{ones_below, far}
use Rattle.fsoe_crc.proofs.TwoParts.{rem-two_parts}
use Rattle.fsoe_crc.proofs.Weight.{pair_columns, pair_with}
use Rattle.std.proofs.Common.{◌≡◌, ℕ, zero, suc, ◌+◌, ◌*◌, ◌/◌, ◌%◌, ◌^◌, ◌<◌, ◌≤◌, ◌⊎◌, inl, inr, List, [], ◌∷◌, ◌++◌, length, bit_xor, count_ones, Bool, true, false, Option, Some, None, IfSome, IsTrue, refl, sym, ap, ◌∙◌, lit<, pow-suc, arith, rules}
use Rattle.std.proofs.lemmas.Nat.{ones_le_self}
use Rattle.seq_chain.specs.Numbers.{following, stepped}
use Rattle.seq_chain.proofs.FewTurned.{groups_refused}
use Rattle.seq_chain.proofs.FirstTurned.{covers_xored}
use Rattle.seq_chain.proofs.Steps.{next_within}

-- whether k bits are left to turn, of two bytes and their CRC, after what comes before them changed so
abbrev left_after : ℕ → List ℕ → Bool
left_after k changed = far pair_columns k (rem (changed ++ 0 ∷ 0 ∷ 0 ∷ 0 ∷ 0 ∷ []))

-- how many bits are left, after a change of the number, of the first pair, of the second and of a single byte; and of
-- the first pair after the commands 36h and 08h are exchanged, too
record Leaves (x : ℕ) : Type 0 where
  pub first : left_after 3 (0 ∷ 0 ∷ low_high x ++ 0 ∷ []) ≡ true
  pub second : left_after 3 (0 ∷ 0 ∷ low_high x ++ 0 ∷ 0 ∷ 0 ∷ []) ≡ true
  pub single : left_after 3 (0 ∷ 0 ∷ low_high x) ≡ true
  pub commands : left_after 1 (0 ∷ 0 ∷ low_high x ++ 0x3E ∷ []) ≡ true

-- the numbers of ones alone: by one of these a number below 65,535 differs from the next
raised : ℕ → ℕ
raised zero = 1
raised (suc j) = raised j * 2 + 1

raised_leaves : (j : ℕ) → j < 16 → Leaves (raised j)
unfolding raised far ones_below pair_columns computing
raised_leaves j h = record {
  first = agree_below_at (λ j. left_after 3 (0 ∷ 0 ∷ low_high (raised j) ++ 0 ∷ [])) (λ _. true) 16 j refl h;
  second = agree_below_at (λ j. left_after 3 (0 ∷ 0 ∷ low_high (raised j) ++ 0 ∷ 0 ∷ 0 ∷ [])) (λ _. true) 16 j refl h;
  single = agree_below_at (λ j. left_after 3 (0 ∷ 0 ∷ low_high (raised j))) (λ _. true) 16 j refl h;
  commands = agree_below_at (λ j. left_after 1 (0 ∷ 0 ∷ low_high (raised j) ++ 0x3E ∷ [])) (λ _. true) 16 j refl h;
}

around_leaves : Leaves 0xFFFE
unfolding far ones_below pair_columns computing
around_leaves = record { first = refl; second = refl; single = refl; commands = refl }

is_raised : (k n : ℕ) → n + 1 < 2 ^ k → (j : ℕ) × (j < k) × (bit_xor n (n + 1) ≡ raised j)
unfolding raised
is_raised zero n h = absurd (omega arith)
is_raised (suc k) n h =
    let m : ℕ = n / 2 in
    elim (cases_eq (n % 2) 0) [
      | inl even ↦
          let whole : n ≡ m * 2 + 0 = omega arith in
          let more : n + 1 ≡ m * 2 + 1 = omega arith in
          (0, omega arith, (λ i. bit_xor (whole i) (more i)) ∙ xor_block 1 m m 0 1 (lit< tt) (lit< tt) ∙ rw (xor_self m) refl)
      | inr odd ↦
          let later = is_raised k m (omega (arith, pow-suc 2 k)) in
          let whole : n ≡ m * 2 + 1 = omega arith in
          let more : n + 1 ≡ (m + 1) * 2 + 0 = omega arith in
          (suc later.0, omega arith, (λ i. bit_xor (whole i) (more i)) ∙ xor_block 1 m (m + 1) 1 0 (lit< tt) (lit< tt) ∙ rw later.2 refl)
    ]

step_leaves : (n : ℕ) → 0 < n → n < 65536 → Leaves (bit_xor n (next n))
step_leaves n some h =
    elim (cases_eq n 65535) [
      | inl last ↦ rw last around_leaves
      | inr other ↦
          let up : next n ≡ n + 1 = grind arith in
          let found = is_raised 16 n (omega arith) in
          rw (up, found.2) (raised_leaves found.0 found.1)
    ]

stepped_leaves : (n : ℕ) (a b : Bool) → 0 < n → n < 65536 → (a ≡ b) ⊎ Leaves (bit_xor (stepped n a) (stepped n b))
stepped_leaves n true true some h = inl refl
stepped_leaves n false false some h = inl refl
stepped_leaves n false true some h = inr (step_leaves n some h)
stepped_leaves n true false some h = inr (rw (xor_comm (next n) n) (step_leaves n some h))

following_within : (before : Option Link) → IfSome before (λ link. link.number < 65536) → (0 < following before) × (following before < 65536)
following_within None h = (omega arith, omega arith)
following_within (Some link) h = next_within link.number h

-- the number of a frame
abbrev number_in : ℕ → Option Link → Frame → ℕ
number_in last before f = number_of last before f.conn f.cmd f.load

alike_or_leaves : (last : ℕ) (before : Option Link) (f g : Frame) → IfSome before (λ link. link.number < 65536) → SteppedAlike last before f g ⊎ Leaves (bit_xor (number_in last before f) (number_in last before g))
alike_or_leaves last before f g h =
    let within = following_within before h in stepped_leaves (following before) (steps_again last before f) (steps_again last before g) within.0 within.1

left_of_two : (k x y : ℕ) (changed : List ℕ) → x < 256 → y < 256 → left_after k changed ≡ true → k ≤ count_ones x + count_ones y + count_ones (rem (changed ++ x ∷ y ∷ 0 ∷ 0 ∷ 0 ∷ []))
left_of_two k x y changed hx hy e =
    rw (rem-two_parts changed (x ∷ y ∷ 0 ∷ 0 ∷ 0 ∷ [])) (pair_with k (rem (changed ++ 0 ∷ 0 ∷ 0 ∷ 0 ∷ 0 ∷ [])) x y hx hy e)

first_apart : (k last conn n n' cmd cmd' d b d' b' : ℕ) → d < 256 → b < 256 → d' < 256 → b' < 256 → left_after k (0 ∷ 0 ∷ low_high (bit_xor n n') ++ bit_xor cmd cmd' ∷ []) ≡ true
    → k ≤ turned_bits d d' + turned_bits b b' + turned_bits (rem (cover last conn n cmd 0 (d ∷ b ∷ []))) (rem (cover last conn n' cmd' 0 (d' ∷ b' ∷ [])))
first_apart k last conn n n' cmd cmd' d b d' b' hd hb hd' hb' e =
    rw (covers_xored last conn conn n n' cmd cmd' (d ∷ b ∷ 0 ∷ 0 ∷ 0 ∷ []) (d' ∷ b' ∷ 0 ∷ 0 ∷ 0 ∷ []) refl, xor_self conn)
    (left_of_two k (bit_xor d d') (bit_xor b b') (0 ∷ 0 ∷ low_high (bit_xor n n') ++ bit_xor cmd cmd' ∷ []) (xor_lt 8 d d' hd hd') (xor_lt 8 b b' hb hb') e)

second_apart : (last conn n n' cmd d b d' b' : ℕ) → d < 256 → b < 256 → d' < 256 → b' < 256 → Leaves (bit_xor n n')
    → 3 ≤ turned_bits d d' + turned_bits b b' + turned_bits (rem (cover last conn n cmd 1 (d ∷ b ∷ []))) (rem (cover last conn n' cmd 1 (d' ∷ b' ∷ [])))
second_apart last conn n n' cmd d b d' b' hd hb hd' hb' leaves =
    rw (covers_xored last conn conn n n' cmd cmd (1 ∷ 0 ∷ d ∷ b ∷ 0 ∷ 0 ∷ 0 ∷ []) (1 ∷ 0 ∷ d' ∷ b' ∷ 0 ∷ 0 ∷ 0 ∷ []) refl, xor_self conn, xor_self cmd)
    (left_of_two 3 (bit_xor d d') (bit_xor b b') (0 ∷ 0 ∷ low_high (bit_xor n n') ++ 0 ∷ 0 ∷ 0 ∷ []) (xor_lt 8 d d' hd hd') (xor_lt 8 b b' hb hb') leaves.second)

single_apart : (last conn n n' cmd d d' : ℕ) → d < 256 → d' < 256 → Leaves (bit_xor n n') → 3 ≤ turned_bits d d' + turned_bits (rem (cover last conn n cmd 0 (d ∷ []))) (rem (cover last conn n' cmd 0 (d' ∷ [])))
single_apart last conn n n' cmd d d' hd hd' leaves =
    rw (covers_xored last conn conn n n' cmd cmd (d ∷ 0 ∷ 0 ∷ 0 ∷ []) (d' ∷ 0 ∷ 0 ∷ 0 ∷ []) refl, xor_self conn, xor_self cmd)
    (omega (arith, ones_le_self 0, left_of_two 3 0 (bit_xor d d') (0 ∷ 0 ∷ low_high (bit_xor n n')) (lit< tt) (xor_lt 8 d d' hd hd') leaves.single))

three_apart : (last conn n n' cmd : ℕ) (load load' : List ℕ) → 0 < length load → length load ≡ length load' → AreBytes load → AreBytes load' → Leaves (bit_xor n n')
    → 3 ≤ turned_within load load' + turned_within (crcs last conn n cmd load) (crcs last conn n' cmd load')
three_apart last conn n n' cmd (d ∷ []) (d' ∷ []) some same h h' leaves = omega (arith, single_apart last conn n n' cmd d d' (h 0) (h' 0) leaves)
three_apart last conn n n' cmd (d ∷ b ∷ load) (d' ∷ b' ∷ load') some same h h' leaves =
    omega (arith, first_apart 3 last conn n n' cmd cmd d b d' b' (h 0) (h 1) (h' 0) (h' 1) (rw (xor_self cmd) leaves.first))
three_apart last conn n n' cmd load load' some same h h' leaves = absurd (omega arith)

six_apart : (last conn n n' cmd : ℕ) (load load' : List ℕ) → 4 ≤ length load → length load ≡ length load' → AreBytes load → AreBytes load' → Leaves (bit_xor n n')
    → 6 ≤ turned_within load load' + turned_within (crcs last conn n cmd load) (crcs last conn n' cmd load')
six_apart last conn n n' cmd (d ∷ b ∷ x ∷ y ∷ load) (d' ∷ b' ∷ x' ∷ y' ∷ load') some same h h' leaves =
    omega (arith, first_apart 3 last conn n n' cmd cmd d b d' b' (h 0) (h 1) (h' 0) (h' 1) (rw (xor_self cmd) leaves.first), second_apart last conn n n' cmd x y x' y' (h 2) (h 3) (h' 2) (h' 3) leaves)
six_apart last conn n n' cmd load load' some same h h' leaves = absurd (omega arith)

three_refused : (last : ℕ) (before : Option Link) (f g : Frame) → 0 < length f.load → AreBytes f.load → AreBytes g.load → IsTrue (fits last before f) → DifferInGroups f g
    → turned_in_frames f g < 3 → Leaves (bit_xor (number_in last before f) (number_in last before g)) → fits last before g ≡ false
three_refused last before f g some h h' right d few leaves = search (rules, three_apart)

pub any_refused : (last : ℕ) (before : Option Link) (f g : Frame) → IfSome before (λ link. link.number < 65536) → 0 < length f.load → AreBytes f.load → AreBytes g.load → IsTrue (fits last before f) → DifferInGroups f g
    → turned_in_frames f g < 3 → fits last before g ≡ false
any_refused last before f g within some h h' right d few =
    elim (alike_or_leaves last before f g within) [
      | inl alike ↦ groups_refused last before f g h h' right d alike (omega arith)
      | inr leaves ↦ three_refused last before f g some h h' right d few leaves
    ]

six_refused : (last : ℕ) (before : Option Link) (f g : Frame) → 4 ≤ length f.load → AreBytes f.load → AreBytes g.load → IsTrue (fits last before f) → DifferInGroups f g
    → turned_in_frames f g < 6 → Leaves (bit_xor (number_in last before f) (number_in last before g)) → fits last before g ≡ false
six_refused last before f g long h h' right d few leaves = search (rules, six_apart)

pub two_refused : (last : ℕ) (before : Option Link) (f g : Frame) → IfSome before (λ link. link.number < 65536) → 4 ≤ length f.load → AreBytes f.load → AreBytes g.load → IsTrue (fits last before f) → DifferInGroups f g
    → turned_in_frames f g < 6 → fits last before g ≡ false
two_refused last before f g within long h h' right d few =
    elim (alike_or_leaves last before f g within) [
      | inl alike ↦ groups_refused last before f g h h' right d alike few
      | inr leaves ↦ six_refused last before f g long h h' right d few leaves
    ]

exchange_leaves : left_after 1 (0 ∷ 0 ∷ 0 ∷ 0 ∷ 0x3E ∷ []) ≡ true
unfolding far ones_below pair_columns computing
exchange_leaves = refl

one_left : (n n' : ℕ) → (n ≡ n') ⊎ Leaves (bit_xor n n') → left_after 1 (0 ∷ 0 ∷ low_high (bit_xor n n') ++ 0x3E ∷ []) ≡ true
one_left n n' (inl same) = rw (same, xor_self n') exchange_leaves
one_left n n' (inr leaves) = leaves.commands

five_turned : (cmd cmd' : ℕ) → bit_xor cmd cmd' ≡ 0x3E → turned_bits cmd cmd' ≡ 5
unfolding ones ones_in
five_turned cmd cmd' e = rw e refl

-- the five bits between 36h and 08h, and one more
commands_apart : (last conn n n' cmd cmd' : ℕ) (load load' : List ℕ) → 4 ≤ length load → length load ≡ length load' → AreBytes load → AreBytes load' → bit_xor cmd cmd' ≡ 0x3E → (n ≡ n') ⊎ Leaves (bit_xor n n')
    → 6 ≤ turned_bits cmd cmd' + turned_within load load' + turned_within (crcs last conn n cmd load) (crcs last conn n' cmd' load')
commands_apart last conn n n' cmd cmd' (d ∷ b ∷ load) (d' ∷ b' ∷ load') some same h h' other near =
    omega (arith, five_turned cmd cmd' other, first_apart 1 last conn n n' cmd cmd' d b d' b' (h 0) (h 1) (h' 0) (h' 1) (rw other (one_left n n' near)))
commands_apart last conn n n' cmd cmd' load load' some same h h' other near = absurd (omega arith)

exchange_refused : (last : ℕ) (before : Option Link) (f g : Frame) → 4 ≤ length f.load → AreBytes f.load → AreBytes g.load → IsTrue (fits last before f) → DifferAsData f g → bit_xor f.cmd g.cmd ≡ 0x3E
    → (number_in last before f ≡ number_in last before g) ⊎ Leaves (bit_xor (number_in last before f) (number_in last before g)) → turned_in_frames f g < 6 → fits last before g ≡ false
exchange_refused last before f g long h h' right d other near few = search (rules, commands_apart)

same_or_exchanged : (f g : Frame) → DifferAsData f g → DifferInGroups f g ⊎ (bit_xor f.cmd g.cmd ≡ 0x3E)
same_or_exchanged f g d =
    elim d.one_is_data [
      | inl e ↦ elim d.other_is_data [ inl e' ↦ inl (same (e ∙ sym e')) | inr e' ↦ inr (λ i. bit_xor (e i) (e' i)) ]
      | inr e ↦ elim d.other_is_data [ inl e' ↦ inr (λ i. bit_xor (e i) (e' i)) | inr e' ↦ inl (same (e ∙ sym e')) ]
    ]
  where
    same : f.cmd ≡ g.cmd → DifferInGroups f g
    same e = record { differ = d.differ; one_length = d.one_length; command = e; connection = d.connection }

pub two_refused_as_data : (last : ℕ) (before : Option Link) (f g : Frame) → IfSome before (λ link. link.number < 65536) → 4 ≤ length f.load → AreBytes f.load → AreBytes g.load → IsTrue (fits last before f) → DifferAsData f g
    → turned_in_frames f g < 6 → fits last before g ≡ false
two_refused_as_data last before f g within long h h' right d few =
    elim (same_or_exchanged f g d) [
      | inl same ↦ two_refused last before f g within long h h' right same few
      | inr e ↦ exchange_refused last before f g long h h' right d e
          (elim (alike_or_leaves last before f g within) [ inl steps ↦ inl (ap (stepped (following before)) steps) | inr leaves ↦ inr leaves ]) few
    ]

pub any_refused_as_data : (last : ℕ) (before : Option Link) (f g : Frame) → IfSome before (λ link. link.number < 65536) → 0 < length f.load → AreBytes f.load → AreBytes g.load → IsTrue (fits last before f) → DifferAsData f g
    → turned_in_frames f g < 3 → fits last before g ≡ false
any_refused_as_data last before f g within some h h' right d few =
    elim (same_or_exchanged f g d) [
      | inl same ↦ any_refused last before f g within some h h' right same few
      | inr e ↦ absurd (omega (arith, five_turned f.cmd g.cmd e))
    ]
