-- Why settings of many connections are refused.
use Rattle.std.specs.Prelude.{ℕ, nat_lt, List, length, Option, Some, option_map, map, if◌then◌else◌}
use Rattle.param_load.specs.SameConn.{same_conn}
use Rattle.param_load.specs.declared.master_settings.MasterSettings.{MasterSettings}
use Rattle.multi_master.specs.declared.fault.NewFault.{NewFault}
use Rattle.multi_master.specs.declared.fault.NewFault.TheVariants as fault

-- the first fault of these connection ids: there are more than 64, or two are the same. Places are counted from 1
abbrev pub ids_fault : List ℕ → Option NewFault
ids_fault ids = if nat_lt 64 (length ids) then Some fault.TooMany else option_map (λ (pair : ℕ × ℕ). fault.SameConn pair.0 pair.1) (same_conn 1 ids)

-- the first fault of these settings, by the connection ids
abbrev pub first_fault : List MasterSettings → Option NewFault
first_fault settings = ids_fault (map (λ s. s.conn) settings)
