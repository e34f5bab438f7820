-- Parts of a buffer after a read into its end, and after a line was taken from its front.
use Rattle.std.proofs.Common.{◌≡◌, ℕ, ◌+◌, ◌-◌, ◌≤◌, List, ◌++◌, length, take, drop, arith, refl}
use Rattle.std.specs.List.{copy_within}
use Rattle.std.proofs.lemmas.List.{take-append-le, drop_at, length-take-le, drop-take, drop-drop}
use Rattle.std.proofs.lemmas.Slice.{take-put_mid_below}
use Rattle.std.proofs.Math.Seq.{take-add}
use borrow.Rule.Slice.PartMut.{put_mid, post_of}
use Rattle.std.proofs.lemmas.Grind.{common_steps}

pub filled : (n m k : ℕ) (xs ys : List ℕ) → n ≤ length xs → m ≤ length ys → take (n + m) (put_mid n k xs ys) ≡ take n xs ++ take m ys
filled n m k xs ys h j = rw (take-add, take-put_mid_below n k xs ys n (omega arith) h, drop_at (take n xs) (ys ++ post_of n k xs) n (length-take-le n xs h), take-append-le m ys _ j) refl

pub rest_after : (s e n : ℕ) (xs : List ℕ) → s + n ≤ e → take (e - (s + n)) (drop (s + n) xs) ≡ drop n (take (e - s) (drop s xs))
rest_after s e n xs h = let k : e - s ≡ n + (e - (s + n)) = omega arith in rw (k, drop-take, drop-drop) refl

pub shifted : (s e : ℕ) (xs : List ℕ) → s ≤ e → e ≤ length xs → take (e - s) (copy_within xs s e 0) ≡ take (e - s) (drop s xs)
shifted s e xs h k = grind (arith, common_steps)
