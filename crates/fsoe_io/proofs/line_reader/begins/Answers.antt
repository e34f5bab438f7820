use Rattle.std.proofs.Common.{arith}
use Rattle.fsoe_io.proofs.Newline.{none_near}
use Rattle.fsoe_io.proofs.line_reader.begins.Goals as goal

pub returns-in-Some-2 : goal.returns-in-Some-2
returns-in-Some-2 c = none_near c.in-Some.at c.args.bytes.now (omega arith) (omega (arith, c.in-Some.ensures.0.high)) c.in-Some.ensures.0.before

pub returns-in-None : goal.returns-in-None
returns-in-None c = none_near _ c.args.bytes.now (omega arith) (omega arith) c.in-None.ensures
