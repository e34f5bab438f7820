-- What C code is told of an end's next deed, and of its terms.
use Rattle.std.specs.Prelude.{◌≡◌, ◌≤◌, ℕ, List, ◌∷◌, true, false, IsSomeAnd, drop}
use Rattle.fsoe_base.specs.declared.did.Did.{Did}
use Rattle.param_load.specs.declared.entry.Move.{Move}
use Rattle.param_load.specs.declared.entry.Move.TheVariants as move
use Rattle.param_load.specs.declared.master_settings.MasterSettings.{MasterSettings}
use Rattle.param_load.specs.declared.slave_settings.SlaveSettings.{SlaveSettings}
use Rattle.end_model.specs.Deed.{Deed}
use Rattle.end_model.specs.Readiness.{told_terms}
use Rattle.end_model.specs.Setup.{Setup, OfMaster, OfSlave}
use Rattle.end_model.specs.Step.{step}
use Rattle.slave_core.specs.SlaveView.{SlaveView}
use Rattle.slave_core.specs.Standing.{SlaveIsAfter}
use Rattle.master_core.specs.MasterView.{MasterView}
use Rattle.master_core.specs.Now.{is_due}
use Rattle.master_core.specs.Standing.{MasterIsAfter}
use Rattle.master_core.specs.Waiting.{Accepts, Delivery, Waits, with_delivery}
use Rattle.c_values.specs.Numbers.{flag}
use Rattle.fsoe_c.specs.Ids.{WithIds, ids_of, uses_id_again}
use Rattle.c_values.specs.Told.{ShowsDid, ShowsTerms, frame_of}
use Rattle.c_values.specs.declared.told.GpDid.{GpDid}
use Rattle.c_values.specs.declared.told.GpFrame.{GpFrame}
use Rattle.c_values.specs.declared.told.GpTerms.{GpTerms}

-- the fields and the frame are those of the next deed of an end, whether it begins a session with a used id, too; what
-- lay behind the data and the frame stays
pub record Tells {S V : Type 0} (is_after : S → V → List Deed → Type 0) (setup : S → Setup) (old : WithIds V) (event : Move) (was g : GpDid) (had f : GpFrame) : Type 0 where
  pub did : (settings : S) (deeds : List Deed) → is_after settings old.core deeds → ShowsDid g (step (setup settings) deeds event).did
  pub used : (settings : S) (deeds : List Deed) → is_after settings old.core deeds → old.ids ≡ ids_of (setup settings) deeds
      → g.used ≡ flag (uses_id_again (setup settings) (step (setup settings) deeds event) deeds)
  pub sent : (settings : S) (deeds : List Deed) → is_after settings old.core deeds → frame_of f ≡ (step (setup settings) deeds event).sent
  pub len : f.len ≤ 255
  pub past_load : drop g.load_len g.load ≡ drop g.load_len was.load
  pub past_out : drop f.len f.bytes ≡ drop f.len had.bytes

abbrev pub SlaveTells : WithIds SlaveView → Move → (was g : GpDid) (had f : GpFrame) → Type 0
SlaveTells = Tells SlaveIsAfter OfSlave

abbrev pub MasterTells : WithIds MasterView → Move → (was g : GpDid) (had f : GpFrame) → Type 0
MasterTells = Tells MasterIsAfter OfMaster

-- a master accepted these bytes, and the fields say what it did, and whether a frame that is due begins a session with a
-- used id, as if it were sent at once. Its ids stay while a frame is due, and else are those of the next deed
pub record AcceptsTelling (old : WithIds MasterView) (bytes : List ℕ) (g : GpDid) (new : WithIds MasterView) : Type 0 where
  pub did : Did
  pub told : ShowsDid g did
  pub used : (settings : MasterSettings) (deeds : List Deed) → MasterIsAfter settings old.core deeds → old.ids ≡ ids_of (OfMaster settings) deeds
      → g.used ≡ flag (uses_id_again (OfMaster settings) (step (OfMaster settings) deeds (move.Deliver bytes)) deeds)
  pub accepts : Accepts old.core bytes did new.core
  pub kept : is_due new.core.state ≡ true → new.ids ≡ old.ids
  pub ids : is_due new.core.state ≡ false → (settings : MasterSettings) (deeds : List Deed) → MasterIsAfter settings old.core deeds → old.ids ≡ ids_of (OfMaster settings) deeds
      → new.ids ≡ ids_of (OfMaster settings) (step (OfMaster settings) deeds (move.Deliver bytes) ∷ deeds)

-- the fields say what the terms are after the deeds of a slave: it is in state Data
pub record SlaveShowsTerms (slave : SlaveView) (g : GpTerms) : Type 0 where
  pub shows : (settings : SlaveSettings) (deeds : List Deed) → SlaveIsAfter settings slave deeds → IsSomeAnd (told_terms (OfSlave settings) deeds) (ShowsTerms g)

-- the fields say what the terms are after the deeds of a master: it is in state Data
pub record MasterShowsTerms (master : MasterView) (g : GpTerms) : Type 0 where
  pub shows : (settings : MasterSettings) (deeds : List Deed) → MasterIsAfter settings master deeds → IsSomeAnd (told_terms (OfMaster settings) deeds) (ShowsTerms g)

-- the fields say what the terms are of a master that waits in a delivery, as if its frame had been sent
pub record MasterShowsTermsDue (master : MasterView) (g : GpTerms) : Type 0 where
  pub shows : (d : Delivery) → Waits master d → IsSomeAnd (told_terms (OfMaster d.settings) (with_delivery d)) (ShowsTerms g)
