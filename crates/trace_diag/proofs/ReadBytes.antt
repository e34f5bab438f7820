-- The payloads of the settings that are read off bytes to which no row applies begin with these bytes, and have zeros
-- after them.
use Rattle.trace_diag.proofs.Common.{AreBytes, byte_or, connection_holds, connection_payload, eqb-true, get_or-drop, get_or-take, get_or_past, id_holds, le-ltb, length-take, lt-ltb, number_at, padded, padded_len, parameter_holds, parameter_payload, session_payload, word_or}
use Rattle.std.proofs.Common.{◌≡◌, ℕ, zero, suc, ◌+◌, ◌-◌, ◌*◌, ◌/◌, ◌%◌, ◌==◌, ◌<◌, ◌≤◌, nat_lt, List, length, take, drop, Bool, true, false, ◌||◌, refl, sym, ap, ap₂, ◌∙◌, arith, ◌⊎◌, inl, inr, if◌then◌else◌, rules}
use Rattle.param_load.specs.declared.profile.Profile.TheVariants as profile
use Rattle.trace_diag.proofs.NoneApplies.{at}
use Rattle.trace_diag.proofs.PieceRows.{at_followed, past_count}

-- a byte that is reached
reached : (missing i : ℕ) (u : List ℕ) → i < length u → byte_or missing i u ≡ at u i
reached missing i u h = ap (λ (t : Bool). if t then at u i else missing) (lt-ltb i (length u) h)

low-of : (missing i n : ℕ) (u : List ℕ) → AreBytes u → i < length u → n ≡ word_or missing i u → at u i ≡ n % 256
low-of missing i n u h k l = search (rules, reached)

high-of : (missing i n : ℕ) (u : List ℕ) → AreBytes u → i + 1 < length u → n ≡ word_or missing i u → at u (i + 1) ≡ n / 256
high-of missing i n u h k l = grind arith

-- where a test or that it is 0 holds and the test doesn't, it is zero
zero-else : (t : Bool) (b : ℕ) → t ≡ false → (t || b == 0) ≡ true → b ≡ 0
zero-else t b h k = grind arith

-- the session id that is read off
pub id_read : (u : List ℕ) → AreBytes u → ((i : ℕ) → i < length u → id_holds i (at u i) ≡ true) → (i : ℕ) → i < length u → at u i ≡ at (session_payload (word_or 0 0 u) profile.One) i
id_read u h k i l = grind arith

-- the address that is read off, after the connection id of the frames
pub connection_read : (conn : ℕ) (u : List ℕ) → AreBytes u → ((i : ℕ) → i < length u → connection_holds conn i (at u i) ≡ true) → (i : ℕ) → i < length u → at u i ≡ at (connection_payload conn (word_or 0 2 u)) i
connection_read conn u are rows zero h = eqb-true (at u 0) (conn % 256) (rows 0 h)
connection_read conn u are rows (suc zero) h = eqb-true (at u 1) (conn / 256) (rows 1 h)
connection_read conn u are rows (suc (suc zero)) h = low-of 0 2 (word_or 0 2 u) u are h refl
connection_read conn u are rows (suc (suc (suc zero))) h = high-of 0 2 (word_or 0 2 u) u are h refl
connection_read conn u are rows (suc (suc (suc (suc i)))) h =
    zero-else (nat_lt j 4) (at u j) (le-ltb j 4 (omega arith)) (past (rows j h))
  where
    j : ℕ
    j = suc (suc (suc (suc i)))

    past : connection_holds conn j (at u j) ≡ true → (nat_lt j 4 || at u j == 0) ≡ true
    past e = ap (λ (t : Bool). if t then at u j == at (connection_payload conn 0) j else (nat_lt j 4 || at u j == 0)) (sym (le-ltb j 2 (omega arith))) ∙ e

-- the application parameters that are read off
abbrev pub app_read : List ℕ → List ℕ
app_read u = padded (take (word_or 0 4 u) (drop 6 u)) (word_or 0 4 u)

pub app_long : (u : List ℕ) → length (app_read u) ≡ word_or 0 4 u
app_long u = padded_len (take (word_or 0 4 u) (drop 6 u)) (word_or 0 4 u) (omega (arith, length-take (word_or 0 4 u) (drop 6 u)))

-- the watchdog, the number of application parameters, and these
pub parameters_read : (u : List ℕ) → AreBytes u → ((i : ℕ) → i < length u → parameter_holds u i (at u i) ≡ true) → (i : ℕ) → i < length u
    → at u i ≡ at (parameter_payload (word_or 1 2 u) profile.One (padded (take (word_or 0 4 u) (drop 6 u)) (word_or 0 4 u))) i
parameters_read u are rows zero h = eqb-true (at u 0) 2 (rows 0 h)
parameters_read u are rows (suc zero) h = eqb-true (at u 1) 0 (rows 1 h)
parameters_read u are rows (suc (suc zero)) h = low-of 1 2 (word_or 1 2 u) u are h refl
parameters_read u are rows (suc (suc (suc zero))) h = high-of 1 2 (word_or 1 2 u) u are h refl
parameters_read u are rows (suc (suc (suc (suc zero)))) h = low-of 0 4 (length (app_read u)) u are h (app_long u)
parameters_read u are rows (suc (suc (suc (suc (suc zero))))) h = high-of 0 4 (length (app_read u)) u are h (app_long u)
parameters_read u are rows (suc (suc (suc (suc (suc (suc j)))))) h = elim (in-app j n) [ inl within ↦ bytes within | inr past ↦ zeros past ]
  where
    n : ℕ
    n = word_or 0 4 u

    i : ℕ
    i = suc (suc (suc (suc (suc (suc j)))))

    in-app : (a b : ℕ) → (a < b) ⊎ (b ≤ a)
    in-app a b = grind arith

    app-at : at (app_read u) j ≡ at (take n (drop 6 u)) j
    app-at = at_followed (take n (drop 6 u)) (n - length (take n (drop 6 u))) j

    bytes : j < n → at u i ≡ at (app_read u) j
    bytes within = let six : 6 + j ≡ i = omega arith in sym (app-at ∙ (get_or-take n (drop 6 u) j 0 within ∙ (get_or-drop 6 u j 0 ∙ ap (at u) six)))

    known : number_at 4 u ≡ n
    known = ap₂ (λ (x y : ℕ). x + 256 * y) (sym (reached 0 4 u (omega (arith, h)))) (sym (reached 0 5 u (omega (arith, h))))

    zeros : n ≤ j → at u i ≡ at (app_read u) j
    zeros past =
        zero-else (nat_lt i (6 + number_at 4 u)) (at u i) (le-ltb i (6 + number_at 4 u) (omega (arith, known, past))) (sym (past_count u i (at u i) (omega arith)) ∙ rows i h)
        ∙ sym (app-at ∙ get_or_past (take n (drop 6 u)) j 0 (omega (arith, length-take n (drop 6 u), past)))
