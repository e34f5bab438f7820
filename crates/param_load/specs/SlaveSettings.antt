-- What a slave is set to.
use Rattle.std.specs.Prelude.{◌≡◌, ℕ}
use Rattle.fsoe_base.specs.declared.lengths.Lengths.{Lengths}
use Rattle.param_load.specs.declared.app_rule.AppRule.{AppRule}
use Rattle.param_load.specs.declared.profile.Profile.{Profile}
use Rattle.param_load.specs.declared.slave_settings.SlaveSettings.{SlaveSettings}

-- settings of a slave with these values
pub record IsSlaveSetTo (s : SlaveSettings) (lengths : Lengths) (address hand most : ℕ) (rule : AppRule) (nonce : ℕ) (profile : Profile) : Type 0 where
  pub lengths_are : s.lengths ≡ lengths
  pub address_is : s.address ≡ address
  pub hand_is : s.hand ≡ hand
  pub most_is : s.most ≡ most
  pub rule_is : s.rule ≡ rule
  pub nonce_is : s.nonce ≡ nonce
  pub profile_is : s.profile ≡ profile
