-- Decimal digits: of a number with two, and of the number that comes next.
use Rattle.std.proofs.Common.{◌≡◌, ℕ, ◌+◌, ◌-◌, ◌/◌, ◌%◌, ◌^◌, ◌≤◌, ◌<◌, List, [], ◌∷◌, ◌++◌, length, take, get_or, arith, ap, sym, ◌∙◌}
use Rattle.std.specs.Prelude.{decimal, nat_lt, if◌then◌else◌}
use Rattle.std.proofs.lemmas.Fmt.{decimal_digit, decimal_step}
use Rattle.std.proofs.lemmas.Grind.{take-set_at}
use Rattle.std.proofs.lemmas.Bool.Decides.{nat_tests}
use Rattle.std.proofs.lemmas.List.{same_from_push, take_more}
use Rattle.std.proofs.Math.ListN.{set}

pub two_digits : (n : ℕ) → 10 ≤ n → n < 100 → decimal n ≡ (48 + n / 10) ∷ (48 + n % 10) ∷ []
two_digits n h few = decimal_step n h (omega arith) ∙ ap (λ (ds : List ℕ). ds ++ (48 + n % 10) ∷ []) (decimal_digit (n / 10) (omega arith))

-- the digits before the last one
abbrev front : ℕ → List ℕ
front n = if nat_lt n 10 then [] else decimal (n / 10)

last_digit : (n : ℕ) → n < 2 ^ 64 → decimal n ≡ front n ++ (48 + n % 10) ∷ []
last_digit n fits = grind (arith, nat_tests, decimal_digit n, decimal_step n)

front_stays : (n : ℕ) → 0 < n → (n - 1) % 10 < 9 → front n ≡ front (n - 1)
front_stays n some low = let tens : n / 10 ≡ (n - 1) / 10 = omega arith in grind (arith, nat_tests)

-- where the last digit isn't nine, the next number has the same digits but for the last, which is one more
pub raised : (ds : List ℕ) (j k n d : ℕ) → k ≡ j + 1 → j < length ds → take k ds ≡ decimal (n - 1) → 0 < n → n < 2 ^ 64 → d ≡ get_or ds j 0 + 1 → d < 58
    → take k (set ds j d) ≡ decimal n
raised ds j k n d is_next within is some fits is_more low =
    let old = same_from_push (take j ds) (front (n - 1)) (get_or ds j 0) (48 + (n - 1) % 10)
    (sym (take_more ds j 0 within) ∙ ap (λ (i : ℕ). take i ds) (sym is_next) ∙ is ∙ last_digit (n - 1) (omega arith)) in
    let last : d ≡ 48 + n % 10 = omega (arith, old.1) in
    take-set_at ds j k d is_next within ∙ rw (old.0, ← front_stays n some (omega (arith, old.1)), last) (sym (last_digit n fits))
