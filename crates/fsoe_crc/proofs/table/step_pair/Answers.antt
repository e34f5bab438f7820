use Rattle.std.proofs.Common.{refl, arith}
use Rattle.fsoe_crc.proofs.ByTable.{rem-pair}
use Rattle.fsoe_crc.proofs.Swapped.{swapped_xor}
use Rattle.fsoe_crc.proofs.table.step_pair.Goals as goal

pub returns : goal.returns
returns c bytes e =
    rw (c.swap_bytes-2.ensures, swapped_xor c.after_two.result c.after_one.result (omega arith) (omega arith), c.after_two.ensures, c.after_one.ensures)
    (rem-pair 0 bytes c.args.value c.args.first c.args.second _ e (omega arith) (omega arith) (omega arith) (rw (c.swap_bytes.ensures, c.from_le_bytes.ensures) refl))
