use Rattle.std.proofs.Common.{refl, arith}
use Rattle.fsoe_crc.proofs.ByTable.{rem-pair}
use Rattle.fsoe_crc.proofs.table.step_pair_and_zeros.Goals as goal

pub returns : goal.returns
returns c bytes e =
    rw (c.after_five.ensures, c.after_four.ensures)
    (rem-pair 3 bytes c.args.value c.args.first c.args.second _ e (omega arith) (omega arith) (omega arith) (rw (c.swap_bytes.ensures, c.from_le_bytes.ensures) refl))
