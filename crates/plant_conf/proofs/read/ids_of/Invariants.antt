use Rattle.std.proofs.Common.{◌≡◌, map, take}
use Rattle.plant_conf.proofs.read.ids_of.Given as goal

abbrev pub invariant-loop-link : goal.invariant-loop-link
invariant-loop-link l = l.ids.items ≡ map (λ link. link.master.conn) (take l.link-index l.links)
