use Rattle.std.proofs.Common.{rules}
use Rattle.file_run.proofs.HandedOut.{part_is}
use Rattle.file_run.proofs.waiting.Waiting.give.Goals as goal

pub returns-clause-part : goal.returns-clause-part
returns-clause-part c = search (rules, part_is)
