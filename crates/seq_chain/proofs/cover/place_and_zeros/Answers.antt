-- The table is held against the definition at each of the 63 places, by computing.
use Rattle.seq_chain.proofs.Common.{agree_below_at, eqb-true, place, rem}
use Rattle.fsoe_crc.specs.Remainder.{computing}
use Rattle.std.proofs.Common.{get_or, nat_eq, true, refl, arith, ◌++◌, replicate}
use Rattle.seq_chain.specs.declared.cover.TheConstants.{PLACES}
use Rattle.seq_chain.proofs.cover.place_and_zeros.Goals as goal

pub returns : goal.returns
unfolding computing
returns c = eqb-true _ _ (agree_below_at (λ i. nat_eq (get_or PLACES i 0) (rem (place i ++ replicate 5 0))) (λ _. true) 63 c.args.index refl (omega arith))
