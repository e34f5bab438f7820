-- What contracts see of a slave.
use Rattle.std.specs.Prelude.{◌≡◌, IsTrue}
use Rattle.failsafe_io.specs.Timer.{Timer, started}
use Rattle.slave_core.specs.declared.phase.Phase.{Phase}
use Rattle.slave_core.specs.Kit.{KitView}
use Rattle.slave_core.specs.Phase.{IsUnder, is_reset}

-- what it has in every state, the state that it is in, and its watchdog
pub record SlaveView : Type 0 where
  pub kit : KitView
  pub state : Phase
  pub timer : Timer

-- the state was made under the settings, and in state Reset no tick is counted
pub record IsSoundSlave (v : SlaveView) : Type 0 where
  pub under : IsUnder v.kit.settings v.state
  pub at_rest : IsTrue (is_reset v.state) → v.timer ≡ started v.kit.settings.hand
