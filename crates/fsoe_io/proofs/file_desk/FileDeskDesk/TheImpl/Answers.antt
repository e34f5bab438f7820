use Rattle.std.proofs.Common.{arith, rules}
use Rattle.std.proofs.lemmas.Grind.{common_steps}
use Rattle.fsoe_io.proofs.Shelves.{noted_rose, noted_same}
use Rattle.fsoe_io.proofs.file_desk.FileDeskDesk.TheImpl.Goals as goal

pub load-tells : goal.load-tells
load-tells g c = record {
  bytes = grind (arith, common_steps);
  within = search rules;
  too_long = search rules;
  told = search rules;
  later = grind (arith, common_steps);
  others = search (rules, noted_same);
  cause = search (rules, noted_rose);
  stayed = grind (arith, common_steps);
}
