-- The first pieces of a payload: how many bytes they are, and that they begin as the payload with zeros after it.
use Rattle.exchange_model.proofs.Common.{all_zero, common_steps, drop-append-add, drop-replicate, drop_all, length-append, mul-le-mul_left, number_at, padded, padded_len, piece, pieces_for, replicate-append-replicate}
use Rattle.std.proofs.Common.{◌≡◌, ℕ, zero, suc, ◌+◌, ◌-◌, ◌*◌, ◌/◌, ◌<◌, ◌≤◌, ◌==◌, List, [], ◌∷◌, ◌++◌, length, take, drop, replicate, true, ◌&&◌, refl, ap, ap₂, ◌∙◌, arith, append_assoc}
use Rattle.std.proofs.lemmas.List.{take-append-drop}
use Rattle.exchange_model.proofs.Alone.Pieces.{front, piece_short}
use Rattle.exchange_model.proofs.Terms.Agree.{front_take}
use Rattle.exchange_model.proofs.Honest.ResetFrames.{zeros_all}

pub front_long : (p : List ℕ) (c k : ℕ) → length (front p c k) ≡ k * c
front_long p c zero = omega arith
front_long p c (suc k) =
    length-append (front p c k) (padded (piece p c (suc k)) c)
    ∙ (ap₂ (λ (a b : ℕ). a + b) (front_long p c k) (padded_len (piece p c (suc k)) c (piece_short p c (suc k))) ∙ omega arith)

-- bytes that begin a payload with zeros after it
pub record IsBegun (u p : List ℕ) : Type 0 where
  pub rest : List ℕ
  pub zeros : ℕ
  pub is : u ++ rest ≡ p ++ replicate zeros 0

pub front_begun : (p : List ℕ) (c k : ℕ) → 0 < c → IsBegun (front p c k) p
front_begun p c k h =
    let u : List ℕ = p ++ replicate (k * c) 0 in
    record { rest = drop (k * c) u; zeros = k * c; is = ap (λ t. t ++ drop (k * c) u) (front_take p c k (k * c) (omega arith)) ∙ take-append-drop (k * c) u }

-- a number within these bytes is the payload's
pub number_in : (u p : List ℕ) (b : IsBegun u p) (i : ℕ) → suc i < length u → number_at i u ≡ number_at i (p ++ replicate b.zeros 0)
number_in u p b i h = grind (arith, common_steps)

-- so are the bytes from a place on
pub part_in : (u p : List ℕ) (b : IsBegun u p) (m n : ℕ) → m + n ≤ length u → take n (drop m u) ≡ take n (drop m (p ++ replicate b.zeros 0))
part_in u p b m n h = grind (arith, common_steps)

zeros-front : (u rest : List ℕ) (n : ℕ) → u ++ rest ≡ replicate n 0 → all_zero u ≡ true
zeros-front [] rest n h = refl
zeros-front (x ∷ u) rest zero h = cc
zeros-front (x ∷ u) rest (suc n) h =
    let a : x ≡ 0 = cc in
    let b : u ++ rest ≡ replicate n 0 = cc in
    ap (λ x. (x == 0) && all_zero u) a ∙ zeros-front u rest n b

-- past the payload's end there are zeros
past-end : (u rest p : List ℕ) (n : ℕ) → u ++ rest ≡ p ++ replicate n 0 → all_zero (drop (length p) u) ≡ true
past-end u rest [] n h = zeros-front u rest n h
past-end [] rest (y ∷ p) n h = ap all_zero (drop_all (length (y ∷ p)) [] (omega arith))
past-end (x ∷ u) rest (y ∷ p) n h = let b : u ++ rest ≡ p ++ replicate n 0 = cc in past-end u rest p n b

pub padding_in : (u p : List ℕ) → IsBegun u p → all_zero (drop (length p) u) ≡ true
padding_in u p b = past-end u b.rest p b.zeros b.is

-- when the pieces are the whole payload
pub not_yet : (n c k : ℕ) → 0 < c → k < pieces_for n c → k * c < n
not_yet n c k h g = let m : c * (k + 1) ≤ c * ((n + c - 1) / c) = mul-le-mul_left c (omega arith) in omega arith

pub all_come : (n c k : ℕ) → 0 < c → pieces_for n c ≤ k → n ≤ k * c
all_come n c k h g = let m : c * ((n + c - 1) / c) ≤ c * k = mul-le-mul_left c g in omega arith

pub some_piece : (n c : ℕ) → 0 < c → 0 < n → 0 < pieces_for n c
some_piece n c h k = grind arith

-- past a piece in a frame there are zeros
pub drop_padded : (q : List ℕ) (c l : ℕ) → length q ≤ c → all_zero (drop c (padded q l)) ≡ true
drop_padded q c l h =
    let e : c ≡ length q + (c - length q) = omega arith in
    let n : ℕ = l - length q in
    ap (λ k. all_zero (drop k (q ++ replicate n 0))) e
    ∙ (ap all_zero (drop-append-add q (replicate n 0) (c - length q) ∙ drop-replicate (c - length q) n 0) ∙ zeros_all (n - (c - length q)))

-- a piece that fills an answer fills it in the same way
pub padded_twice : (q : List ℕ) (c l : ℕ) → length q ≤ c → c ≤ l → padded (padded q c) l ≡ padded q l
padded_twice q c l h k = filled-more q (c - length q) (l - length (padded q c)) (l - length q) (let a : length (padded q c) ≡ c = padded_len q c h in omega arith)
  where
    filled-more : (q : List ℕ) (i j n : ℕ) → i + j ≡ n → (q ++ replicate i 0) ++ replicate j 0 ≡ q ++ replicate n 0
    filled-more q i j n e = append_assoc q (replicate i 0) (replicate j 0) ∙ ap (λ t. q ++ t) (replicate-append-replicate i j 0 ∙ ap (λ n. replicate n 0) e)
