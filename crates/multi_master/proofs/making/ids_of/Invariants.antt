use Rattle.std.proofs.Common.{◌≡◌, map, take}
use Rattle.multi_master.proofs.making.ids_of.Given as goal

abbrev pub invariant-loop-own : goal.invariant-loop-own
invariant-loop-own l = l.ids.items ≡ map (λ s. s.conn) (take l.own-index l.settings)
