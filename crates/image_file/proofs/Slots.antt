-- The frames and the end of a slot, as its lines say them.
use Rattle.image_file.proofs.Common.{Core, IsEndOf, Setup, SlotHeader, frame_len, is_length, nat_tests, setup_of}
use Rattle.std.proofs.Common.{◌≡◌, ◌≤◌, ℕ, IsTrue, sym, subst, arith, inl, inr}
use Rattle.std.proofs.lemmas.Bool.{cases_eq}

-- a frame has at most 255 bytes
pub frame_most : (l : ℕ) → IsTrue (is_length l) → frame_len l ≤ 255
frame_most l h = elim (cases_eq l 1) [ inl one ↦ grind (arith, nat_tests) | inr other ↦ grind (arith, nat_tests) ]

-- a new end is set to settings that the lines of a slot say
pub made : (s : SlotHeader) (core : Core) (setup : Setup) → setup_of core ≡ setup → IsEndOf s setup → IsEndOf s (setup_of core)
made s core setup set is = subst (λ (t : Setup). IsEndOf s t) (sym set) is
