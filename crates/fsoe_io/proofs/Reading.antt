-- What a read gives of the bytes that are left.
use Rattle.std.proofs.Common.{◌≡◌, ℕ, ◌+◌, ◌-◌, ◌≤◌, ◌<◌, List, [], ◌++◌, length, take, drop, arith, sym, min}
use Rattle.std.proofs.lemmas.List.{take-append-drop, take_at, length-take-le, length-drop, drop-drop}
use Rattle.std.proofs.lemmas.Grind.{common_steps}

-- the first n bytes left stand in the buffer, and the rest is left
pub given_part : (at n : ℕ) (items given rest : List ℕ) → at + n ≤ length items → given ≡ take n (drop at items) → drop at items ≡ take n (given ++ rest) ++ drop (at + n) items
given_part at n items given rest fits is =
    rw (is, take_at (take n (drop at items)) rest n (length-take-le n (drop at items) (omega (arith, length-drop at items))), ← drop-drop n at items)
    (sym (take-append-drop n (drop at items)))

-- a read of as many bytes as the buffer has room for and as are left
pub read_part : (at n : ℕ) (items given buffer : List ℕ) → at ≤ length items → n ≡ min (length buffer) (length items - at) → given ≡ take ((at + n) - at) (drop at items)
    → (drop at items ≡ take n (given ++ drop n buffer) ++ drop (at + n) items) × (n ≡ 0 → 0 < length (given ++ drop n buffer) → drop (at + n) items ≡ [])
read_part at n items given buffer h k l = grind (arith, common_steps, given_part)
