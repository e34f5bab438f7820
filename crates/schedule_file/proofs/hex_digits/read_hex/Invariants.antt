use Rattle.schedule_file.proofs.HexDigits.{Reads}
use Rattle.schedule_file.proofs.hex_digits.read_hex.Given as goal

abbrev pub invariant-loop-i : goal.invariant-loop-i
invariant-loop-i l = Reads l.text l.out l.i l.seen
