use Rattle.std.proofs.Common.{arith, rules}
use Rattle.image_file.proofs.Faults.{too_many, tested}
use Rattle.image_file.proofs.spans.first_fault.Goals as goal

pub returns-then-slots-gt-MOST_SLOTS : goal.returns-then-slots-gt-MOST_SLOTS
returns-then-slots-gt-MOST_SLOTS c = too_many c.args.size_in c.args.size_out c.args.slots.now (omega arith)

pub returns-in-Some : goal.returns-in-Some
returns-in-Some c = search (rules, tested)

pub returns : goal.returns
returns c = search (rules, tested)
