use Rattle.std.proofs.Common.{arith}
use Rattle.fsoe_io.proofs.Reading.{read_part}
use Rattle.fsoe_io.proofs.memory_source.SureSourceSource.read.Goals as goal
use Rattle.std.proofs.lemmas.Grind.{common_steps}

pub returns-clause-bytes : goal.returns-clause-bytes
returns-clause-bytes c = grind (arith, common_steps, read_part)
