use Rattle.std.proofs.Common.{◌≡◌, ◌++◌, map, drop, is_some, true}
use Rattle.std.specs.List.{filter_map, list_all}
use Rattle.toml.specs.Data.{as_str}
use Rattle.toml.specs.View.{view}
use Rattle.plant_conf.specs.Forms.{wire_said}
use Rattle.plant_conf.proofs.arrays.required_wires.Given as goal

abbrev pub invariant-loop-value : goal.invariant-loop-value
invariant-loop-value l = record {
  texts : list_all (λ d. is_some (as_str d)) (map view (drop l.value-index l.values)) ≡ true;
  tested :
      list_all (λ t. is_some (wire_said t)) (filter_map as_str (map view l.values))
      ≡ list_all (λ t. is_some (wire_said t)) (filter_map as_str (map view (drop l.value-index l.values)));
  given :
      filter_map wire_said (filter_map as_str (map view l.values))
      ≡ l.wires.items ++ filter_map wire_said (filter_map as_str (map view (drop l.value-index l.values)));
}
