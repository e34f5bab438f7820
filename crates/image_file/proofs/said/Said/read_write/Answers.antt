use Rattle.image_file.proofs.Common.{Err}
use Rattle.std.proofs.Common.{ap, sym, ◌∙◌, arith}
use Rattle.image_file.proofs.Written.{unsaid, written}
use Rattle.image_file.proofs.said.Said.read_write.Goals as goal

pub returns-in-Err : goal.returns-in-Err
returns-in-Err c = unsaid c.args.size c.args.place.now c.args.digits.now c.in-Err.field-0 c.in-Err.ensures.value ∙ ap Err (sym c.not_written.ensures)

pub returns-in-Ok-number_16 : goal.returns-in-Ok-number_16
returns-in-Ok-number_16 c = grind (arith, written c.args.size c.in-Ok-number_16.first c.args.place.now c.args.digits.now c.read_bytes.new.bytes)

pub returns-in-Ok-2 : goal.returns-in-Ok-2
returns-in-Ok-2 c = grind (arith, written c.args.size c.in-Ok-2.field-0 c.args.place.now c.args.digits.now c.read_bytes.new.bytes)
