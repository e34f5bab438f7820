-- A text is cut at the first of its bytes that passes a test.
use Rattle.schedule_file.proofs.Common.{IsFirstByte, None, Nowhere, Passes, Some, drop_more, false_from_ne_true, get_or-take, get_or_default, length-take, slice_split, slice_split_at, slice_split_none, take-append-drop}
use Rattle.std.proofs.Common.{◌≡◌, ℕ, ◌+◌, ◌≤◌, Bool, List, [], ◌∷◌, ◌++◌, length, take, drop, get_or, slice_index, All, false, arith, ap, ◌∙◌, sym}

-- none of the first n bytes is found
none-found : (test : ℕ → Bool) (text : List ℕ) (n : ℕ) → n ≤ length text → Nowhere (Passes test text) 0 n → All (λ b. test b ≡ false) (take n text)
none-found test text n fits none =
    λ k d lt.
    let below = length-take n text in
    let same : get_or (take n text) k d ≡ get_or text k 0 = get_or-take n text k d (omega arith) ∙ get_or_default text k d 0 (omega arith) in
    ap test same ∙ false_from_ne_true _ (none k (omega arith) (omega arith))

pub cut_found : (test : ℕ → Bool) (text : List ℕ) (at : ℕ) → IsFirstByte test text (Some at) → slice_split test text ≡ take at text ∷ slice_split test (drop (at + 1) text)
cut_found test text at first =
    let lt = first.0.high in
    let whole : text ≡ take at text ++ slice_index text at ∷ drop (at + 1) text =
    sym (take-append-drop at text) ∙ ap (λ (z : List ℕ). take at text ++ z) (drop_more text at 0 lt) in
    ap (slice_split test) whole ∙ slice_split_at test (take at text) (slice_index text at) (drop (at + 1) text) (none-found test text at (omega arith) first.0.before) first.1

pub cut_nowhere : (test : ℕ → Bool) (text : List ℕ) → IsFirstByte test text None → slice_split test text ≡ text ∷ []
cut_nowhere test text none = slice_split_none test text (λ k d lt. ap test (get_or_default text k d 0 lt) ∙ false_from_ne_true _ (none k (omega arith) lt))
