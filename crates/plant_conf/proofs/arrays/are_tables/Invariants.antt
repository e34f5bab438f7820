use Rattle.std.proofs.Common.{◌≡◌, map, drop, is_some}
use Rattle.std.specs.List.{list_all}
use Rattle.toml.specs.Data.{as_table}
use Rattle.toml.specs.View.{view}
use Rattle.plant_conf.proofs.arrays.are_tables.Given as goal

abbrev pub invariant-loop-value : goal.invariant-loop-value
invariant-loop-value l = list_all (λ d. is_some (as_table d)) (map view l.values) ≡ list_all (λ d. is_some (as_table d)) (map view (drop l.value-index l.values))
