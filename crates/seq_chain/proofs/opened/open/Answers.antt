use Rattle.seq_chain.proofs.Common.{whole}
use Rattle.std.proofs.Common.{rules}
use Rattle.seq_chain.proofs.opened.open.Goals as goal

pub returns-in-Some-of-clause-len : goal.returns-in-Some-of-clause-len
returns-in-Some-of-clause-len c = search (rules, whole)
