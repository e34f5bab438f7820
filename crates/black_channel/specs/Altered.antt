-- The frame that a channel looks back to, and what it makes of one that it alters.
use Rattle.std.specs.Prelude.{ℕ, List, slice_set, slice_index, bit_xor, Option, None, zero, suc, slice_get}

-- a frame with one byte altered by a mask
abbrev pub altered : ℕ → ℕ → List ℕ → List ℕ
altered pos mask frame = slice_set frame pos (bit_xor (slice_index frame pos) mask)

-- the frame so many back, 1 for the newest; 0 names none
abbrev pub back_th : ℕ → List (List ℕ) → Option (List ℕ)
back_th zero frames = None
back_th (suc k) frames = slice_get frames k
