-- What is read from bytes is within the widths of a frame's parts.
use Rattle.seq_chain.proofs.Common.{AreBytes, cases_eq, frame_at, frame_len, frame_len_other, frame_of, get_or-drop, is_length, one_byte, pairs}
use Rattle.std.proofs.Common.{◌≡◌, ◌≢◌, ℕ, zero, suc, ◌+◌, ◌-◌, ◌*◌, ◌/◌, ◌%◌, ◌<◌, List, [], ◌∷◌, length, drop, IsTrue, inl, inr, ap, arith, rules}
use Rattle.byteorder.specs.Numbers.{little_from-lt}

pub received_connection : (l : ℕ) (bytes : List ℕ) → IsTrue (is_length l) → length bytes ≡ frame_len l → AreBytes bytes → (frame_of l bytes).conn < 65536
received_connection l bytes valid right h =
    let end : ℕ = length bytes - 2 in
    let fits = little_from-lt 0 2 (drop end bytes) (λ k. rw (get_or-drop end bytes k 0) (h (end + k))) in
    let e = (frame_at l bytes valid right).conn_is in
    omega arith

one_load : (cmd : ℕ) (bytes : List ℕ) → length bytes ≡ 5 → AreBytes bytes → AreBytes (one_byte cmd bytes).load
one_load cmd (d ∷ c ∷ c' ∷ k ∷ k' ∷ []) right h zero = h zero
one_load cmd (d ∷ c ∷ c' ∷ k ∷ k' ∷ []) right h (suc i) = omega arith
one_load cmd _ right h i = absurd (omega arith)

pairs_load : (cmd n : ℕ) (bytes : List ℕ) → length bytes ≡ 4 * n + 2 → AreBytes bytes → AreBytes (pairs cmd bytes).load
pairs_load cmd zero (k ∷ k' ∷ []) right h i = omega arith
pairs_load cmd (suc n) (d ∷ d' ∷ c ∷ c' ∷ bytes) right h zero = h zero
pairs_load cmd (suc n) (d ∷ d' ∷ c ∷ c' ∷ bytes) right h (suc zero) = h (suc zero)
pairs_load cmd (suc n) (d ∷ d' ∷ c ∷ c' ∷ bytes) right h (suc (suc i)) = pairs_load cmd n bytes (omega arith) (λ j. h (suc (suc (suc (suc j))))) i
pairs_load cmd _ _ right h i = absurd (omega arith)

pairs_of : (l cmd : ℕ) (bytes : List ℕ) → l ≢ 1 → frame_of l (cmd ∷ bytes) ≡ pairs cmd bytes
pairs_of l cmd bytes other = grind arith

load_of_pairs : (l cmd : ℕ) (bytes : List ℕ) → IsTrue (is_length l) → l ≢ 1 → length (cmd ∷ bytes) ≡ frame_len l → AreBytes bytes → AreBytes (frame_of l (cmd ∷ bytes)).load
load_of_pairs l cmd bytes valid other right h =
    let even : l % 2 ≡ 0 = (frame_len_other l valid other).0 in
    let len : frame_len l ≡ 3 + 2 * l = (frame_len_other l valid other).1 in
    rw (pairs_of l cmd bytes other) (pairs_load cmd (l / 2) bytes (omega arith) h)

pub received_load : (l : ℕ) (bytes : List ℕ) → IsTrue (is_length l) → length bytes ≡ frame_len l → AreBytes bytes → AreBytes (frame_of l bytes).load
received_load l [] valid right h = λ i. omega arith
received_load l (cmd ∷ bytes) valid right h =
    elim (cases_eq l 1) [
      | inl one ↦ rw one (one_load cmd bytes (let e : frame_len l ≡ 6 = ap frame_len one in omega arith) (λ j. h (suc j)))
      | inr other ↦ load_of_pairs l cmd bytes valid other right (λ j. h (suc j))
    ]

pub received_some : (l : ℕ) (bytes : List ℕ) → IsTrue (is_length l) → length bytes ≡ frame_len l → 0 < length (frame_of l bytes).load
received_some l bytes h k = search rules
