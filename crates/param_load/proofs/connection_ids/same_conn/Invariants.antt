use Rattle.std.proofs.Common.{◌≡◌, ◌+◌, drop}
use Rattle.param_load.specs.SameConn.{same_conn}
use Rattle.param_load.proofs.connection_ids.same_conn.Given as goal

abbrev pub invariant-loop-at : goal.invariant-loop-at
invariant-loop-at l = same_conn 1 l.ids ≡ same_conn (l.at + 1) (drop l.at l.ids)
