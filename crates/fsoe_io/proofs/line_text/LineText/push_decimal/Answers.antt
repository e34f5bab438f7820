use Rattle.std.proofs.Common.{arith}
use Rattle.fsoe_io.proofs.Buffer.{filled}
use Rattle.fsoe_io.proofs.line_text.LineText.push_decimal.Goals as goal

pub returns-clause-text : goal.returns-clause-text
returns-clause-text c = grind (arith, filled)
