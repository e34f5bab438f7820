-- What contracts see of a master.
use Rattle.std.specs.Prelude.{◌≡◌}
use Rattle.failsafe_io.specs.Timer.{Timer}
use Rattle.master_core.specs.Kit.{KitView}
use Rattle.master_core.specs.Now.{Now}
use Rattle.master_core.specs.Phase.{IsUnder}

-- what it has in every state, where it stands, and its watchdog
pub record MasterView : Type 0 where
  pub kit : KitView
  pub state : Now
  pub timer : Timer

-- the phase was made under the settings, whose watchdog is the limit in every state
pub record IsSoundMaster (v : MasterView) : Type 0 where
  pub under : IsUnder v.kit.settings v.state.phase
  pub limit_is : v.timer.limit ≡ v.kit.settings.watchdog
