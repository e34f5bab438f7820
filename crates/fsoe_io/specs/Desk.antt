-- What desks hold and count.
use Rattle.std.specs.Prelude.{ℕ, List, String, Vec, find, count_by, string_bytes, bytes_eq, option_map}
use Rattle.std.specs.declared.alloc.Global.{Global}
use Rattle.std.specs.declared.option.Option.{Option}
use Rattle.fsoe_io.specs.Planned.{Planned}

-- a text under its name
pub record Named : Type 0 where
  pub name : List ℕ
  pub text : List ℕ

-- a name and a text as bytes
abbrev pub named : String Global × Vec ℕ Global → Named
named file = record { name = string_bytes file.0; text = file.1.items }

-- the names of the loads that failed, and for how many more there is room
pub record FailedNames : Type 0 where
  pub names : List (List ℕ)
  pub room : ℕ

-- the texts of a desk in memory, the calls that fail, and the names of the loads that failed
pub record Shelf : Type 0 where
  pub files : List Named
  pub planned : Planned
  pub failed : List (List ℕ)

-- the first text under a name, if there is one
abbrev pub text_under : List Named → List ℕ → Option (List ℕ)
text_under files name = option_map (λ file. file.text) (find (λ file. bytes_eq file.name name) files)

-- how many loads of a name failed
abbrev pub failed_loads : List (List ℕ) → List ℕ → ℕ
failed_loads failed name = count_by (λ one. bytes_eq one name) failed
