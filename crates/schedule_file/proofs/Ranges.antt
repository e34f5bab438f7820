-- Lists of lowest and highest values.
use Rattle.schedule_file.proofs.Common.{IsTrue, Ranges, common_steps, is_acceptable, nat_le, nat_tests, pointwise, ranges_with}
use Rattle.std.proofs.Common.{◌≡◌, ℕ, ◌+◌, ◌*◌, ◌≤◌, ◌<◌, List, [], ◌∷◌, ◌++◌, length, drop, get_or, append_assoc, length-append, arith}

-- one more pair at the end of both lists
pointwise-append-one : (low high : List ℕ) (x y : ℕ) → IsTrue (pointwise nat_le low high) → x ≤ y
    → IsTrue (pointwise nat_le (low ++ x ∷ []) (high ++ y ∷ []))
pointwise-append-one (a ∷ low) (b ∷ high) x y h le = grind (arith, nat_tests, pointwise-append-one low high x y)
pointwise-append-one [] [] x y h le = grind (arith, nat_tests)
pointwise-append-one _ _ x y h le = grind (arith, nat_tests)

pub is_acceptable-append-one : (low high : List ℕ) (x y : ℕ) → IsTrue (is_acceptable (Ranges low high)) → x ≤ y
    → IsTrue (is_acceptable (Ranges (low ++ x ∷ []) (high ++ y ∷ [])))
is_acceptable-append-one low high x y h le = pointwise-append-one low high x y h le

-- the pairs of a line, of which the first is taken
pub ranges_with-pair : (low high pairs : List ℕ) (x y : ℕ) → x ≤ y
    → ranges_with low high (x ∷ y ∷ pairs) ≡ ranges_with (low ++ x ∷ []) (high ++ y ∷ []) pairs
ranges_with-pair low high pairs x y le = grind (arith, nat_tests, append_assoc, length-append)

-- the pair at a place, and the pairs after it
pub pair_at : (pairs : List ℕ) (k : ℕ) → 2 * k + 1 < length pairs → drop (2 * k) pairs ≡ get_or pairs (2 * k) 0 ∷ get_or pairs (2 * k + 1) 0 ∷ drop (2 * (k + 1)) pairs
pair_at pairs k h = grind (arith, common_steps)
