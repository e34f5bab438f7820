-- What a master is set to.
use Rattle.std.specs.Prelude.{◌≡◌, ℕ, List}
use Rattle.fsoe_base.specs.declared.lengths.Lengths.{Lengths}
use Rattle.param_load.specs.declared.master_settings.MasterSettings.{MasterSettings}
use Rattle.param_load.specs.declared.profile.Profile.{Profile}

-- settings of a master with these values
pub record IsMasterSetTo (s : MasterSettings) (lengths : Lengths) (conn address watchdog : ℕ) (app : List ℕ) (nonce : ℕ) (profile : Profile) : Type 0 where
  pub lengths_are : s.lengths ≡ lengths
  pub conn_is : s.conn ≡ conn
  pub address_is : s.address ≡ address
  pub watchdog_is : s.watchdog ≡ watchdog
  pub app_is : s.app ≡ app
  pub nonce_is : s.nonce ≡ nonce
  pub profile_is : s.profile ≡ profile
