use Rattle.std.proofs.Common.{◌≡◌, drop, map}
use Rattle.std.specs.List.{position_from}
use Rattle.std.specs.Str.{bytes_eq}
use Rattle.plant_setup.specs.Names.{name_place}
use Rattle.plant_setup.proofs.named.place_of.Given as goal

abbrev pub invariant-loop-i : goal.invariant-loop-i
invariant-loop-i g l = position_from (λ own. bytes_eq own l.name) l.i (map g.N.HasName.name_of (drop l.i l.all)) ≡ name_place l.name (map g.N.HasName.name_of l.all)
