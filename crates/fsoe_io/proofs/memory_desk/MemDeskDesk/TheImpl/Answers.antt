use Rattle.std.proofs.Common.{arith, rules}
use Rattle.std.proofs.lemmas.Grind.{common_steps}
use Rattle.fsoe_io.proofs.Shelves.{noted_rose, noted_same}
use Rattle.fsoe_io.proofs.memory_desk.MemDeskDesk.TheImpl.Goals as goal

pub load-tells : goal.load-tells
load-tells c = record {
  bytes = search rules;
  within = search rules;
  too_long = search rules;
  told = grind (arith, common_steps);
  later = grind (arith, common_steps);
  others = search (rules, noted_same);
  cause = search (rules, noted_rose);
  stayed = grind (arith, common_steps);
}
