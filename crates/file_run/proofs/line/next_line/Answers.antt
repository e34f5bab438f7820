use Rattle.std.proofs.Common.{rules}
use Rattle.file_run.proofs.Found.{no_line, none_goes}
use Rattle.file_run.proofs.line.next_line.Goals as goal

pub returns-in-Err-clause-finds : goal.returns-in-Err-clause-finds
returns-in-Err-clause-finds c = search (rules, no_line)

pub returns-in-Err-clause-goes : goal.returns-in-Err-clause-goes
returns-in-Err-clause-goes c = search (rules, none_goes)
