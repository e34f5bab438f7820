-- The table is held against the definition at each of the 256 numbers, by computing.
use Rattle.std.proofs.Common.{get_or, nat_eq, true, refl, arith}
use Rattle.std.specs.Int.{w16, swap_bytes}
use Rattle.std.proofs.lemmas.Bool.{agree_below_at, eqb-true}
use Rattle.fsoe_crc.specs.declared.table.TheConstants.{AFTER_ONE}
use Rattle.fsoe_crc.specs.Remainder.{zeros_entry, bits_of, fed}
use Rattle.fsoe_crc.proofs.table.after_one.Goals as goal

pub returns : goal.returns
unfolding zeros_entry bits_of fed
returns c = eqb-true _ _ (agree_below_at (λ high. nat_eq (swap_bytes w16 (get_or AFTER_ONE high 0)) (zeros_entry 1 high)) (λ _. true) 256 c.args.high refl (omega arith))
