-- One line of counts more.
use Rattle.std.proofs.Common.{◌≡◌, ℕ, zero, suc, ◌+◌, ◌<◌, ◌≤◌, List, [], ◌∷◌, ◌++◌, length, length-append, append-nil, add-one, codes, decimal, sym, ap, ◌∙◌, arith}
use Rattle.std.proofs.lemmas.Fmt.{length-decimal-le}
use Rattle.std.proofs.lemmas.List.{flat_map_more}
use Rattle.std.specs.List.{range_with_len, flat_map}
use Rattle.fsoe_lab.specs.Counts.{count_line, count_lines}

pub line_length : (old word new : List ℕ) (bits changes : ℕ) → length word ≤ 3 → bits < 100 → changes < 65536
    → new ≡ old ++ (word ++ codes " " ++ decimal bits ++ codes " " ++ decimal changes ++ codes "\n") → length new ≤ length old + 13
line_length old word new bits changes short few low e =
    let first = length-decimal-le 2 bits (omega arith) few (omega arith) in
    let second = length-decimal-le 5 changes (omega arith) (omega arith) (omega arith) in
    rw e (simp length-append (omega arith))

pub no_lines : (before word : List ℕ) (most : ℕ) → before ≡ before ++ count_lines word most 0
unfolding count_lines
no_lines before word most = sym (append-nil before)

range_more : (a n : ℕ) → range_with_len a (suc n) ≡ range_with_len a n ++ (a + n) ∷ []
range_more a zero = ap (λ x. x ∷ []) (omega arith)
range_more a (suc n) =
    let next : a + 1 + n ≡ a + suc n = omega arith in
    ap (λ xs. a ∷ xs) (range_more (a + 1) n ∙ ap (λ x. range_with_len (a + 1) n ++ x ∷ []) next)

pub more_lines : (text before word : List ℕ) (most n : ℕ) → text ≡ before ++ count_lines word most n → text ++ count_line word most (n + 1) ≡ before ++ count_lines word most (n + 1)
unfolding count_lines
more_lines text before word most n e =
    let next : 1 + n ≡ n + 1 = omega arith in
    let range : range_with_len 1 (n + 1) ≡ range_with_len 1 n ++ (n + 1) ∷ [] = ap (range_with_len 1) (add-one n) ∙ range_more 1 n ∙ ap (λ x. range_with_len 1 n ++ x ∷ []) next in
    ap (λ xs. xs ++ count_line word most (n + 1)) e
    ∙ flat_map_more (count_line word most) before (range_with_len 1 n) (n + 1)
    ∙ ap (λ xs. before ++ flat_map (count_line word most) xs) (sym range)
