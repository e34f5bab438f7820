-- The next part of a text.
use Rattle.std.proofs.Common.{◌≡◌, ◌≤◌, ◌+◌, ◌-◌, ℕ, List, ◌++◌, take, drop, arith, sym, ap, ◌∙◌}
use Rattle.std.proofs.Math.Seq.{take-add}
use Rattle.std.proofs.lemmas.List.{drop-take, drop-drop}

pub part_is : (given count len : ℕ) (bytes shown part : List ℕ) → given + count ≤ len → shown ≡ bytes → part ≡ take (given + count - given) (drop given shown) → drop given (take len bytes) ≡ part ++ drop (given + count) (take len bytes)
part_is given count len bytes shown part fits same is =
    let rest : len ≡ given + (count + (len - (given + count))) = omega arith in
    let behind : len ≡ (given + count) + (len - (given + count)) = omega arith in
    let size : given + count - given ≡ count = omega arith in
    rw (is, same, size)
    (ap (λ (n : ℕ). drop given (take n bytes)) rest ∙ drop-take given (count + (len - (given + count))) bytes ∙ take-add count (len - (given + count)) (drop given bytes)
    ∙ ap (λ (z : List ℕ). take count (drop given bytes) ++ z) (ap (take (len - (given + count))) (drop-drop count given bytes) ∙ sym (ap (λ (n : ℕ). drop (given + count) (take n bytes)) behind ∙ drop-take (given + count) (len - (given + count)) bytes)))
