-- What it means that a slave does what looking back says.
use Rattle.std.specs.Prelude.{◌≡◌, ℕ, List, [], ◌∷◌}
use Rattle.fsoe_base.specs.declared.did.Did.{Did}
use Rattle.param_load.specs.declared.entry.Move.{Move}
use Rattle.param_load.specs.declared.slave_settings.SlaveSettings.{SlaveSettings}
use Rattle.end_model.specs.Setup.{Setup, OfSlave}
use Rattle.end_model.specs.Deed.{Deed}
use Rattle.end_model.specs.Step.{step}
use Rattle.end_model.specs.Runs.{IsRun}
use Rattle.slave_core.specs.SlaveView.{SlaveView}
use Rattle.slave_core.specs.ViewOf.{view_of}

-- this slave, with these settings, is where these deeds leave it, and the deeds are a run
pub record SlaveIsAfter (settings : SlaveSettings) (slave : SlaveView) (deeds : List Deed) : Type 0 where
  pub is : slave ≡ view_of settings deeds
  pub reached : IsRun (OfSlave settings) deeds

-- a slave that was after some deeds is, after this event, after these and the next one
pub record Follows (old : SlaveView) (event : Move) (new : SlaveView) : Type 0 where
  pub is_after : (settings : SlaveSettings) (deeds : List Deed) → SlaveIsAfter settings old deeds
      → SlaveIsAfter settings new (step (OfSlave settings) deeds event ∷ deeds)

-- what a slave does at this event, and the frame that it sends, are those of its next deed
pub record Answers (old : SlaveView) (event : Move) (done : Did) (frame : List ℕ) : Type 0 where
  pub did : (settings : SlaveSettings) (deeds : List Deed) → SlaveIsAfter settings old deeds → done ≡ (step (OfSlave settings) deeds event).did
  pub sent : (settings : SlaveSettings) (deeds : List Deed) → SlaveIsAfter settings old deeds → frame ≡ (step (OfSlave settings) deeds event).sent

-- what a slave shows is this word of the deeds that it is after
pub record Shows {X : Type 0} (slave : SlaveView) (shown : X) (word : Setup → List Deed → X) : Type 0 where
  pub shows : (settings : SlaveSettings) (deeds : List Deed) → SlaveIsAfter settings slave deeds → shown ≡ word (OfSlave settings) deeds

-- a slave was called at the event of each of these deeds, the newest first, and did and sent what is noted with it
abbrev pub Called : SlaveView → List Deed → SlaveView → Type 0
Called first [] last = first ≡ last
Called first (x ∷ deeds) last = (slave : SlaveView) × Called first deeds slave × Follows slave x.what last × Answers slave x.what x.did x.sent
