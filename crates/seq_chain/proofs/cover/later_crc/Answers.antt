use Rattle.std.proofs.Common.{rules}
use Rattle.seq_chain.proofs.PartsOfCover.{rem-three_parts}
use Rattle.seq_chain.proofs.cover.later_crc.Goals as goal

pub returns : goal.returns
returns c = search (rules, rem-three_parts)
