-- The table is held against the digits at each byte, by computing.
use Rattle.schedule_file.proofs.Common.{agree_below_at, eqb-true, hex_digit_value}
use Rattle.std.proofs.Common.{◌≡◌, ◌≤◌, ℕ, get_or, nat_eq, true, unwrap_or, refl, sym, subst, arith}
use Rattle.schedule_file.specs.declared.hex_digits.TheConstants.{VALUES}
use Rattle.schedule_file.proofs.HexDigits.{looked_up}
use Rattle.schedule_file.proofs.hex_digits.value.Goals as goal

pub returns : goal.returns
returns c =
    let is : get_or VALUES c.args.c 0 ≡ unwrap_or (hex_digit_value c.args.c) 256 =
    eqb-true _ _ (agree_below_at (λ b. nat_eq (get_or VALUES b 0) (unwrap_or (hex_digit_value b) 256)) (λ _. true) 256 c.args.c refl (omega arith)) in
    record { value = is; most = subst (λ (n : ℕ). n ≤ 256) (sym is) (looked_up c.args.c) }
