use Rattle.plant_core.proofs.Common.{links_made}
use Rattle.std.proofs.Common.{◌≡◌, ◌≤◌, ◌+◌, ◌++◌, drop, length, map, take, vec_len, vec_capacity}
use Rattle.plant_core.proofs.making.parts_made.Given as goal

abbrev pub invariant-loop-i : goal.invariant-loop-i
invariant-loop-i l = record {
  settings : l.settings.items ≡ map (λ link. link.master) (take l.i l.confs);
  links : l.links.items ++ links_made (l.i + 1) l.bounds (drop l.i l.confs) ≡ links_made 1 l.bounds l.confs;
  places : (vec_len l.settings ≡ l.i) × (length l.confs ≤ vec_capacity l.settings);
  others : (vec_len l.links ≡ l.i) × (length l.confs ≤ vec_capacity l.links);
}
