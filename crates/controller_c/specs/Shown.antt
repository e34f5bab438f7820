-- What C code is shown of a controller.
use Rattle.std.specs.Prelude.{◌≡◌, ◌==◌, ℕ, Bool, List, Some}
use Rattle.std.specs.List.{list_any}
use Rattle.end_model.specs.Readiness.{told_terms}
use Rattle.param_load.specs.declared.master_settings.MasterSettings.{MasterSettings}
use Rattle.param_load.specs.declared.terms.Terms.{Terms}
use Rattle.multi_master.specs.Calls.{AppView, Call}
use Rattle.multi_master.specs.Connection.{setup}
use Rattle.multi_master.specs.Standing.{MultiView, ShowsAt, StandsFor, changed, numbers_of}
use Rattle.c_values.specs.Numbers.{flag}
use Rattle.c_values.specs.Told.{ShowsTerms}
use Rattle.c_values.specs.declared.told.GpTerms.{GpTerms}

-- 1 or 0 is shown for a truth value of which this holds
pub record ShowsFlag (shown : ℕ) (holds : Bool → Type 0) : Type 0 where
  pub told : Bool
  pub shown_is : shown ≡ flag told
  pub told_holds : holds told

-- the fields say what the terms are of the connection with this number: it is in state Data
pub record ShowsTermsAt (v : MultiView) (link : ℕ) (g : GpTerms) : Type 0 where
  pub terms : Terms
  pub shows : ShowsTerms g terms
  pub are : ShowsAt v link (Some terms) (λ c. told_terms (setup c) c.deeds)

-- 1 is shown where the newest call changed the offer of the connection with this number, else 0
pub record ShowsChangedAt (v : MultiView) (link shown : ℕ) : Type 0 where
  pub shows : (settings : List MasterSettings) (app : AppView) (calls : List Call) → StandsFor settings app v calls
      → shown ≡ flag (list_any (λ n. n == link) (numbers_of (changed settings app calls)))
