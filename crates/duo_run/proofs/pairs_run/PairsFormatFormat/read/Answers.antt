use Rattle.duo_run.proofs.Common.{LineCause, Result}
use Rattle.std.proofs.Common.{◌≡◌, arith, rules}
use Rattle.schedule_file.specs.FieldsRead.{Becomes}
use Rattle.file_run.specs.Machine.{what_says}
use Rattle.duo_run.proofs.pairs_run.PairsFormatFormat.read.Goals as goal

says : {L : Type 0} (r : Result (Unit {0}) LineCause) (new : L) (said : Result L LineCause) → Becomes r new said → what_says r new ≡ said
says r new said h = grind arith

pub returns : goal.returns
returns c = search (rules, says)
