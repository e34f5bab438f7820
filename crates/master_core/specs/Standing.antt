-- What it means that a master does what looking back says.
use Rattle.std.specs.Prelude.{◌≡◌, ℕ, List, ◌∷◌}
use Rattle.fsoe_base.specs.declared.did.Did.{Did}
use Rattle.param_load.specs.declared.entry.Move.{Move}
use Rattle.param_load.specs.declared.master_settings.MasterSettings.{MasterSettings}
use Rattle.end_model.specs.Setup.{Setup, OfMaster}
use Rattle.end_model.specs.Deed.{Deed}
use Rattle.end_model.specs.Step.{step}
use Rattle.end_model.specs.Runs.{IsRun}
use Rattle.master_core.specs.MasterView.{MasterView}
use Rattle.master_core.specs.ViewOf.{view_of}

-- this master, with these settings, is where these deeds leave it, and the deeds are a run; no frame is due then
pub record MasterIsAfter (settings : MasterSettings) (master : MasterView) (deeds : List Deed) : Type 0 where
  pub is : master ≡ view_of settings deeds
  pub reached : IsRun (OfMaster settings) deeds

-- a master that was after some deeds is, after this event, after these and the next one
pub record Follows (old : MasterView) (event : Move) (new : MasterView) : Type 0 where
  pub is_after : (settings : MasterSettings) (deeds : List Deed) → MasterIsAfter settings old deeds
      → MasterIsAfter settings new (step (OfMaster settings) deeds event ∷ deeds)

-- what a master does at this event, and the frame that it sends, are those of its next deed
pub record Answers (old : MasterView) (event : Move) (done : Did) (frame : List ℕ) : Type 0 where
  pub did : (settings : MasterSettings) (deeds : List Deed) → MasterIsAfter settings old deeds → done ≡ (step (OfMaster settings) deeds event).did
  pub sent : (settings : MasterSettings) (deeds : List Deed) → MasterIsAfter settings old deeds → frame ≡ (step (OfMaster settings) deeds event).sent

-- what a master shows is this word of the deeds that it is after
pub record Shows {X : Type 0} (master : MasterView) (shown : X) (word : Setup → List Deed → X) : Type 0 where
  pub shows : (settings : MasterSettings) (deeds : List Deed) → MasterIsAfter settings master deeds → shown ≡ word (OfMaster settings) deeds
