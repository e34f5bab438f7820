-- When an end is new, with what C code set it to.
use Rattle.std.specs.Prelude.{◌≡◌, ℕ, List, []}
use Rattle.param_load.specs.declared.app_rule.AppRule.{AppRule}
use Rattle.end_model.specs.Deed.{Deed}
use Rattle.end_model.specs.Setup.{Setup, OfMaster, OfSlave}
use Rattle.master_core.specs.MasterView.{MasterView}
use Rattle.master_core.specs.Standing.{MasterIsAfter}
use Rattle.slave_core.specs.SlaveView.{SlaveView}
use Rattle.slave_core.specs.Standing.{SlaveIsAfter}
use Rattle.fsoe_c.specs.Ids.{WithIds, ids_of}
use Rattle.c_values.specs.Settings.{IsMasterSetBy, IsSlaveSetBy}
use Rattle.c_values.specs.declared.settings.GpMasterSettings.{GpMasterSettings}
use Rattle.c_values.specs.declared.settings.GpSlaveSettings.{GpSlaveSettings}

-- a new end with settings of which this holds
pub record IsNew {S V : Type 0} (are_set : S → Type 0) (is_after : S → V → List Deed → Type 0) (setup : S → Setup) (new : WithIds V) : Type 0 where
  pub settings : S
  pub set_so : are_set settings
  pub after_none : is_after settings new.core []
  pub ids : new.ids ≡ ids_of (setup settings) []

-- a new slave that is set so
abbrev pub IsNewSlave : GpSlaveSettings → AppRule → WithIds SlaveView → Type 0
IsNewSlave set rule = IsNew (IsSlaveSetBy set rule) SlaveIsAfter OfSlave

-- a new master that is set so
abbrev pub IsNewMaster : GpMasterSettings → List ℕ → WithIds MasterView → Type 0
IsNewMaster set app = IsNew (IsMasterSetBy set app) MasterIsAfter OfMaster
