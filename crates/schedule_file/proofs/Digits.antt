-- Digits one after another.
use Rattle.schedule_file.proofs.Common.{all_ascii_digits, common_steps, digits_value, is_ascii_digit}
use Rattle.std.proofs.Common.{◌≡◌, ℕ, ◌+◌, ◌-◌, ◌*◌, ◌≤◌, ◌<◌, true, List, length, take, drop, get_or, arith}
use Rattle.std.proofs.lemmas.Str.{digit_value_digit}
use Rattle.std.proofs.lemmas.Int.Digits.{digits_value_more}

-- the value of the digits so far, and of one more
pub value_more : (text : List ℕ) (i : ℕ) → i < length text → 48 ≤ get_or text i 0 → get_or text i 0 ≤ 57
    → digits_value 10 (take i text) * 10 + (get_or text i 0 - 48) ≡ digits_value 10 (take (i + 1) text)
value_more text i lt low high = omega (arith, digits_value_more 10 text i lt, digit_value_digit (get_or text i 0) (low, high))

-- what is left of a text of digits after a digit
pub digits_more : (text : List ℕ) (i : ℕ) → i < length text → is_ascii_digit (get_or text i 0) ≡ true
    → all_ascii_digits (drop (i + 1) text) ≡ all_ascii_digits (drop i text)
digits_more text i h k = grind (arith, common_steps)
