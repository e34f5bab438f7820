use Rattle.std.proofs.Common.{◌≡◌, ◌+◌, All, drop, is_some, map, true, vec_len}
use Rattle.std.specs.List.{filter_map, list_all}
use Rattle.toml.specs.Data.{as_table}
use Rattle.toml.specs.View.{view}
use Rattle.plant_conf.specs.Meaning.{each}
use Rattle.plant_conf.proofs.ArrayLaws.{after_read}
use Rattle.plant_conf.proofs.read.all_of.Given as goal

abbrev pub invariant-loop-place : goal.invariant-loop-place
invariant-loop-place g l = record {
  tables : list_all (λ d. is_some (as_table d)) (map view (drop l.place l.tables)) ≡ true;
  read :
      each g.T.FromTable.says 1 (filter_map as_table (map view l.tables))
      ≡ after_read (map g.T.FromTable.values l.all.items) (each g.T.FromTable.says (l.place + 1) (filter_map as_table (map view (drop l.place l.tables))));
  count : vec_len l.all ≡ l.place;
  holds : All g.T.FromTable.Holds l.all.items;
}
