use Rattle.std.proofs.Common.{rules}
use Rattle.seq_chain.proofs.FirstGroups.{first_told}
use Rattle.seq_chain.proofs.laws.first_groups.Goals as goal

pub returns-clause-frames : goal.returns-clause-frames
returns-clause-frames c last conn cmd before load load' h k l m n = search (rules, first_told)
