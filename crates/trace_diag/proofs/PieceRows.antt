-- A frame that carries a piece of a payload: its bytes may stand where they stand.
use Rattle.trace_diag.proofs.Common.{IsBegun, cases_lt, common_steps, connection_holds, connection_payload, eq-eqb, first_failing, front, front_begun, front_long, get_or_append_left, get_or_past, id_holds, lt-ltb, nat_tests, number_at, padded, parameter_holds, parameter_payload, piece, piece_holds, piece_short, session_payload}
use Rattle.std.proofs.Common.{◌≡◌, ℕ, zero, suc, ◌+◌, ◌*◌, ◌/◌, ◌%◌, ◌==◌, ◌<◌, ◌≤◌, nat_lt, nat_le, List, [], ◌∷◌, ◌++◌, length, take, replicate, Bool, true, None, ◌||◌, refl, sym, ap, ◌∙◌, arith, inl, inr, rules}
use Rattle.param_load.specs.declared.profile.Profile.TheVariants as profile
use Rattle.trace_diag.proofs.NoneApplies.{all_hold, at}

-- zeros after bytes: past these each byte is 0, as past the end
pub at_zeros : (n i : ℕ) → at (replicate n 0) i ≡ 0
at_zeros n i = grind (arith, common_steps)

pub at_followed : (q : List ℕ) (n i : ℕ) → at (q ++ replicate n 0) i ≡ at q i
at_followed [] n i = at_zeros n i
at_followed (x ∷ q) n zero = refl
at_followed (x ∷ q) n (suc i) = at_followed q n i

-- the bytes of a piece are those of its payload from its place on
pub at_piece : (p : List ℕ) (c k i : ℕ) → i < c → at (piece p c (suc k)) i ≡ at p (k * c + i)
at_piece p c k i h = grind (arith, common_steps)

past-piece : (p : List ℕ) (c k i : ℕ) → c ≤ i → at (piece p c (suc k)) i ≡ 0
past-piece p c k i h = get_or_past (piece p c (suc k)) i 0 (omega (arith, piece_short p c (suc k)))

-- the bytes of a frame hold that carries the piece after k others, where the bytes of the payload in the piece do
pub piece_rows : (p : List ℕ) (c k l : ℕ) (holds : ℕ → ℕ → Bool) → ((i : ℕ) → i < c → holds (k * c + i) (at p (k * c + i)) ≡ true)
    → first_failing (piece_holds c holds (k * c)) 0 (padded (piece p c (suc k)) l) ≡ None
piece_rows p c k l holds h = search (rules, all_hold, at_followed, at_piece, past-piece)

-- what a master's frames carry so far has the bytes of the payload
at-front : (p : List ℕ) (c k j : ℕ) → 0 < c → j < k * c → at (front p c k) j ≡ at p j
at-front p c k j some h =
    let b : IsBegun (front p c k) p = front_begun p c k some in
    sym (get_or_append_left (front p c k) b.rest 0 j (omega (arith, front_long p c k, h)))
    ∙ (ap (λ (u : List ℕ). at u j) b.is ∙ at_followed p b.zeros j)

-- the first six bytes are enough
pub six_enough : (u part : List ℕ) (k : ℕ) → k < 6 → at (take 6 u ++ part) k ≡ at (u ++ part) k
six_enough u part k h = grind arith

-- so have the first six of them with the next piece, where its frame has come
pub at_six : (p : List ℕ) (c k j : ℕ) → 0 < c → j < 6 → j < suc k * c → at (take 6 (front p c k) ++ padded (piece p c (suc k)) c) j ≡ at p j
at_six p c k j some six h = six_enough (front p c k) (padded (piece p c (suc k)) c) j six ∙ at-front p c (suc k) j some h

-- the bytes of a session id, and of a connection id and an address
pub id_row : (id i : ℕ) → id_holds i (at (session_payload id profile.One) i) ≡ true
id_row id i = search rules

pub connection_row : (conn address i : ℕ) → connection_holds conn i (at (connection_payload conn address) i) ≡ true
connection_row conn address i = search (rules, eq-eqb)

-- past the number of application parameters, which is the last that is tested
pub past_count : (u : List ℕ) (i b : ℕ) → 6 ≤ i → parameter_holds u i b ≡ (nat_lt i (6 + number_at 4 u) || b == 0)
past_count u i b h = grind arith

or-zero : (h : Bool) (b : ℕ) → b ≡ 0 → (h || b == 0) ≡ true
or-zero h b zero-there = grind arith

at-most : (n : ℕ) → n ≤ 512 → nat_le n 512 ≡ true
at-most n h = grind (arith, nat_tests)

-- the parameters hold, where their numbers are known in the frame that brings their second bytes
row : (w : ℕ) (app u : List ℕ) (i : ℕ) → 0 < w → length app ≤ 512 → (3 ≤ i → number_at 2 u ≡ w) → (5 ≤ i → number_at 4 u ≡ length app)
    → parameter_holds u i (at (parameter_payload w profile.One app) i) ≡ true
row w app u zero some most watchdog count = refl
row w app u (suc zero) some most watchdog count = refl
row w app u (suc (suc zero)) some most watchdog count = ap (λ (h : Bool). h || w % 256 == 0) (lt-ltb 2 (6 + number_at 4 u) (omega arith))
row w app u (suc (suc (suc zero))) some most watchdog count = lt-ltb 0 (number_at 2 u) (omega (arith, some, watchdog (omega arith)))
row w app u (suc (suc (suc (suc zero)))) some most watchdog count = ap (λ (h : Bool). h || length app % 256 == 0) (lt-ltb 4 (6 + number_at 4 u) (omega arith))
row w app u (suc (suc (suc (suc (suc zero))))) some most watchdog count = at-most (number_at 4 u) (omega (arith, most, count (omega arith)))
row w app u (suc (suc (suc (suc (suc (suc j)))))) some most watchdog count =
    past_count u i (at app j) (omega arith)
    ∙ elim (cases_lt j (length app)) [
      | inl within ↦ ap (λ (h : Bool). h || at app j == 0) (lt-ltb i (6 + number_at 4 u) (omega (arith, count (omega arith), within)))
      | inr past ↦ or-zero (nat_lt i (6 + number_at 4 u)) (at app j) (get_or_past app j 0 past)
    ]
  where
    i : ℕ
    i = suc (suc (suc (suc (suc (suc j)))))

number : (a b n : ℕ) → a ≡ n % 256 → b ≡ n / 256 → a + 256 * b ≡ n
number a b n h k = omega (arith, h, k)

-- that is so where the first of them have come up to this place
pub parameter_row : (w : ℕ) (app u : List ℕ) (i : ℕ) → 0 < w → length app ≤ 512 → ((j : ℕ) → j < 6 → j ≤ i → at u j ≡ at (parameter_payload w profile.One app) j)
    → parameter_holds u i (at (parameter_payload w profile.One app) i) ≡ true
parameter_row w app u i some most came =
    row w app u i some most (λ there. number (at u 2) (at u 3) w (came 2 (omega arith) (omega (arith, there))) (came 3 (omega arith) there))
    (λ there. number (at u 4) (at u 5) (length app) (came 4 (omega arith) (omega (arith, there))) (came 5 (omega arith) there))
