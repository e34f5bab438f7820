use Rattle.std.proofs.Common.{◌≡◌, ◌+◌, drop}
use Rattle.param_load.specs.SameConn.{place_of}
use Rattle.param_load.proofs.connection_ids.place_of.Given as goal

abbrev pub invariant-loop-at : goal.invariant-loop-at
invariant-loop-at l = place_of l.id (l.from + 1) (drop l.from l.ids) ≡ place_of l.id (l.at + 1) (drop l.at l.ids)
