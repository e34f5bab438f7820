use Rattle.schedule_file.proofs.Common.{all_ascii_digits, digits_value}
use Rattle.std.proofs.Common.{◌≡◌, ◌≤◌, take, drop}
use Rattle.schedule_file.proofs.field.read_number.Given as goal

abbrev pub invariant-loop-digit : goal.invariant-loop-digit
invariant-loop-digit l =
    (l.value ≤ l.most)
    × (l.value ≡ digits_value 10 (take l.digit-index l.text))
    × (all_ascii_digits (drop l.digit-index l.text) ≡ all_ascii_digits l.text)
