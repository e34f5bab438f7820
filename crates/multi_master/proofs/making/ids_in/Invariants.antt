use Rattle.multi_master.proofs.Common.{settings_in}
use Rattle.std.proofs.Common.{◌≡◌, map, take}
use Rattle.multi_master.proofs.making.ids_in.Given as goal

abbrev pub invariant-loop-master : goal.invariant-loop-master
invariant-loop-master l = l.ids.items ≡ map (λ s. s.conn) (map settings_in (take l.master-index l.masters))
