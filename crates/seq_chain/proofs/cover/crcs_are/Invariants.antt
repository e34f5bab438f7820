use Rattle.seq_chain.proofs.Common.{IsNumbered, crcs, crcs_from, groups, pointwise}
use Rattle.std.proofs.Common.{◌≡◌, ℕ, ◌*◌, nat_eq, drop}
use Rattle.seq_chain.proofs.cover.crcs_are.Given as goal

-- what is left to compare decides
abbrev pub invariant-loop-group : goal.invariant-loop-group
invariant-loop-group l =
    (last conn cmd : ℕ) → IsNumbered l.frame last conn cmd l.load
    → pointwise nat_eq (drop l.group l.view.crcs) (crcs_from last conn l.frame.number cmd l.group (groups (drop (2 * l.group) l.load)))
    ≡ pointwise nat_eq l.view.crcs (crcs last conn l.frame.number cmd l.load)
