use Rattle.std.proofs.Common.{arith}
use Rattle.fsoe_io.proofs.Buffer.{rest_after}
use Rattle.fsoe_io.proofs.line_reader.LineReader.take_line.Goals as goal
use Rattle.std.proofs.lemmas.Grind.{common_steps}

pub returns-clause-held : goal.returns-clause-held
returns-clause-held c = grind (arith, common_steps, rest_after)
