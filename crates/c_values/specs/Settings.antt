-- What C code sets an end to, and the number by which settings are refused.
use Rattle.std.specs.Prelude.{◌≡◌, ℕ, ◌==◌, ◌&&◌, if◌then◌else◌, nat_le, List}
use Rattle.fsoe_base.specs.Lengths.{is_length}
use Rattle.fsoe_base.specs.declared.lengths.Lengths.{Lengths}
use Rattle.param_load.specs.AppRule.{is_acceptable}
use Rattle.param_load.specs.MasterSettings.{IsMasterSetTo}
use Rattle.param_load.specs.SlaveSettings.{IsSlaveSetTo}
use Rattle.param_load.specs.declared.app_rule.AppRule.{AppRule}
use Rattle.param_load.specs.declared.master_settings.MasterSettings.{MasterSettings}
use Rattle.param_load.specs.declared.profile.Profile.{Profile}
use Rattle.param_load.specs.declared.profile.Profile.TheVariants as profile
use Rattle.param_load.specs.declared.slave_settings.SlaveSettings.{SlaveSettings}
use Rattle.c_values.specs.declared.settings.GpMasterSettings.{GpMasterSettings}
use Rattle.c_values.specs.declared.settings.GpSlaveSettings.{GpSlaveSettings}

-- the profile of this number, with this word in profile Two
abbrev pub profile_of : ℕ → ℕ → Profile
profile_of number word = if number == 1 then profile.One else profile.Two word

-- lengths of a master's and a slave's frames
abbrev pub HasLengths : (master slave : ℕ) → Lengths → Type 0
HasLengths master slave lengths = (lengths.master ≡ master) × (lengths.slave ≡ slave)

-- lengths, a profile or a session id are refused by this number, or not, by 0: the first fault counts
abbrev pub common_refusal : (master_len slave_len profile nonce : ℕ) → ℕ
common_refusal master_len slave_len profile nonce =
    if is_length master_len && is_length slave_len then
    if profile == 1 then
    if nat_le nonce 65535 then 0 else 5
    else if profile == 2 then 0 else 4
    else 3

-- limits or a rule are refused by this number, or not, by 0
abbrev pub limits_refusal : (hand most : ℕ) → AppRule → ℕ
limits_refusal hand most rule = if hand == 0 then 8 else if most == 0 then 9 else if is_acceptable rule then 0 else 10

-- a connection id or a watchdog is refused by this number, or not, by 0
abbrev pub connection_refusal : (conn watchdog : ℕ) → ℕ
connection_refusal conn watchdog = if conn == 0 then 6 else if watchdog == 0 then 7 else 0

-- the first of two refusals that is one
abbrev pub first_refusal : ℕ → ℕ → ℕ
first_refusal first second = if first == 0 then second else first

-- settings of a slave are refused by this number, or not, by 0
abbrev pub slave_refusal : GpSlaveSettings → AppRule → ℕ
slave_refusal set rule = first_refusal (common_refusal set.master_len set.slave_len set.profile set.nonce) (limits_refusal set.hand set.most rule)

-- settings of a master are refused by this number, or not, by 0
abbrev pub master_refusal : GpMasterSettings → ℕ
master_refusal set = first_refusal (common_refusal set.master_len set.slave_len set.profile set.nonce) (connection_refusal set.conn set.watchdog)

-- settings of a slave with what C code gave
abbrev pub IsSlaveSetBy : GpSlaveSettings → AppRule → SlaveSettings → Type 0
IsSlaveSetBy set rule s =
    HasLengths set.master_len set.slave_len s.lengths
    × IsSlaveSetTo s s.lengths set.address set.hand set.most rule set.nonce (profile_of set.profile set.word)

-- settings of a master with what C code gave
abbrev pub IsMasterSetBy : GpMasterSettings → List ℕ → MasterSettings → Type 0
IsMasterSetBy set app s =
    HasLengths set.master_len set.slave_len s.lengths
    × IsMasterSetTo s s.lengths set.conn set.address set.watchdog app set.nonce (profile_of set.profile set.word)
