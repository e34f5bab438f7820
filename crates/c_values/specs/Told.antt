-- What C code is told, by the fields that it reads.
use Rattle.std.specs.Prelude.{◌≡◌, ◌≤◌, ◌==◌, ◌||◌, ℕ, Bool, not, List, [], Option, Some, None, take}
use Rattle.fsoe_base.specs.declared.did.Did.{Did}
use Rattle.fsoe_base.specs.declared.did.Took.{Took}
use Rattle.param_load.specs.declared.terms.Terms.{Terms}
use Rattle.c_values.specs.Numbers.{flag, took_number, reset_number, code_number, dropped_number, profile_number, word_number}
use Rattle.c_values.specs.declared.told.GpDid.{GpDid}
use Rattle.c_values.specs.declared.told.GpFrame.{GpFrame}
use Rattle.c_values.specs.declared.told.GpTerms.{GpTerms}

-- the bytes of a frame
abbrev pub frame_of : GpFrame → List ℕ
frame_of f = take f.len f.bytes

-- the safe data of the frame that was taken, none where none was
abbrev pub took_load : Option Took → List ℕ
took_load None = []
took_load (Some took) = took.load

-- the fields say what a step did
pub record ShowsDid (g : GpDid) (d : Did) : Type 0 where
  pub took : g.took ≡ took_number d.took
  pub load : take g.load_len g.load ≡ took_load d.took
  pub load_len : g.load_len ≤ 126
  pub passed : g.passed ≡ flag d.passed
  pub sent : g.sent ≡ flag d.sent
  pub reset : g.reset ≡ reset_number d.reset
  pub code : g.code ≡ code_number d.reset
  pub dropped : g.dropped ≡ dropped_number d.dropped

-- the fields say what terms these are
pub record ShowsTerms (g : GpTerms) (t : Terms) : Type 0 where
  pub conn : g.conn ≡ t.conn
  pub address : g.address ≡ t.address
  pub watchdog : g.watchdog ≡ t.watchdog
  pub app : take g.app_len g.app ≡ t.app
  pub app_len : g.app_len ≤ 512
  pub profile : g.profile ≡ profile_number t.profile
  pub word : g.word ≡ word_number t.profile

-- what was done leads to a frame that is due: a frame was taken, or the end went to state Reset
abbrev pub leads_on : GpDid → Bool
leads_on g = not (g.took == 0) || not (g.reset == 0)
