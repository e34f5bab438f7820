use Rattle.std.proofs.Common.{◌∙◌, ◌/◌, bit_xor, refl, sym, ap, arith}
use Rattle.std.specs.Int.Bits.{xor_lt}
use Rattle.fsoe_crc.proofs.ByTable.{stepped, rem-step, stepped_by_table}
use Rattle.fsoe_crc.proofs.Swapped.{swapped_xor}
use Rattle.fsoe_crc.proofs.table.step.Goals as goal

pub returns : goal.returns
returns c bytes e =
    rw (c.swap_bytes-2.ensures, swapped_xor (bit_xor c.swap_bytes.result c.args.b / 256) c.after_one.result (omega (arith, xor_lt 16 c.swap_bytes.result c.args.b (omega arith) (omega arith))) (omega arith), c.after_one.ensures)
    (sym (stepped_by_table c.args.value c.args.b _ (omega arith) (omega arith) (rw c.swap_bytes.ensures refl)))
    ∙ ap (λ r. stepped r c.args.b) e
    ∙ sym (rem-step bytes c.args.b (omega arith))
