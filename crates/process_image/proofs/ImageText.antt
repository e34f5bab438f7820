-- An image as digits, piece by piece.
use Rattle.process_image.proofs.Common.{append-nil, encode_lower, length-encode_with, length-take-le, lower_digits, slice_index}
use Rattle.hex.specs.Hex.{encode_with}
use Rattle.std.proofs.Common.{◌≡◌, ◌≤◌, ◌+◌, ◌-◌, ◌*◌, ◌/◌, ◌%◌, ℕ, List, [], ◌∷◌, ◌++◌, length, take, drop, length-append, append_assoc, refl, sym, ap, arith}
use Rattle.std.proofs.Math.Seq.{take-add}

-- the digits of one part after another
encode-append : (t xs ys : List ℕ) → encode_with t (xs ++ ys) ≡ encode_with t xs ++ encode_with t ys
unfolding encode_with
encode-append t [] ys = refl
encode-append t (x ∷ xs) ys = ap (λ (ds : List ℕ). slice_index t (x / 16) ∷ slice_index t (x % 16) ∷ ds) (encode-append t xs ys)

pub piece_more : (before text line text' image : List ℕ) (at end : ℕ) → at ≤ end → text ≡ before ++ encode_lower (take at image) → line ≡ encode_lower (take (end - at) (drop at image)) → text' ≡ text ++ line
    → text' ≡ before ++ encode_lower (take end image)
piece_more before text line text' image at end h e is more =
    let all : at + (end - at) ≡ end = omega arith in
    let parts : take end image ≡ take at image ++ take (end - at) (drop at image) = rw all at (take-add at (end - at) image) in
    rw (more, e, is, parts, encode-append lower_digits (take at image) (take (end - at) (drop at image))) (append_assoc before (encode_lower (take at image)) (encode_lower (take (end - at) (drop at image))))

-- at first nothing, and at last all of it
pub piece_first : (before image : List ℕ) → before ≡ before ++ encode_lower (take 0 image)
unfolding encode_with
piece_first before image = sym (append-nil before)

-- there is room for the next piece
pub piece_room : (before text image : List ℕ) (at : ℕ) → at ≤ length image → text ≡ before ++ encode_lower (take at image) → length text ≡ length before + 2 * at
piece_room before text image at h e =
    let n = length-append before (encode_lower (take at image)) in
    let m = length-encode_with lower_digits (take at image) in
    let k = length-take-le at image h in
    omega (arith, ap length e, n, m, k)
