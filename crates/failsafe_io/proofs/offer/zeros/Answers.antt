use Rattle.std.proofs.Common.{ℕ}
use Rattle.std.proofs.lemmas.List.{take-replicate}
use Rattle.failsafe_io.proofs.offer.zeros.Goals as goal

pub returns : goal.returns
returns c = take-replicate {X = ℕ} c.args.len 126 0 c.requires
