-- A delivery in two calls: a master that accepted a frame, and hasn't sent the frame that is due then.
use Rattle.std.specs.Prelude.{◌≡◌, ℕ, false, List, ◌∷◌}
use Rattle.fsoe_base.specs.declared.did.Did.{Did}
use Rattle.fsoe_frame.specs.Parts.{AreBytes}
use Rattle.param_load.specs.declared.entry.Move.{Move}
use Rattle.param_load.specs.declared.entry.Move.TheVariants as move
use Rattle.param_load.specs.declared.master_settings.MasterSettings.{MasterSettings}
use Rattle.end_model.specs.Setup.{Setup, OfMaster}
use Rattle.end_model.specs.Deed.{Deed}
use Rattle.end_model.specs.Step.{step}
use Rattle.end_model.specs.Runs.{IsRun}
use Rattle.master_core.specs.Master.{accepted}
use Rattle.master_core.specs.MasterView.{MasterView}
use Rattle.master_core.specs.Now.{is_due}
use Rattle.master_core.specs.Standing.{MasterIsAfter}
use Rattle.master_core.specs.ViewOf.{view_of}

-- a delivery in progress: a master with these settings accepted these bytes after these deeds, and did this
pub record Delivery : Type 0 where
  pub settings : MasterSettings
  pub before : List Deed
  pub bytes : List ℕ
  pub did : Did

-- its deed, which does and sends what a delivery in one call does and sends
abbrev pub its_deed : Delivery → Deed
its_deed d = step (OfMaster d.settings) d.before (move.Deliver d.bytes)

-- the deeds with the delivery
abbrev pub with_delivery : Delivery → List Deed
with_delivery d = its_deed d ∷ d.before

-- a delivery before which this event came, too
abbrev pub preceded_by : Move → Delivery → Delivery
preceded_by event d = record d { before = step (OfMaster d.settings) d.before event ∷ d.before }

-- a master waits in a delivery: it is, and did, what accepting the bytes makes of a master after the deeds before
pub record Waits (master : MasterView) (d : Delivery) : Type 0 where
  pub is : master ≡ (accepted (view_of d.settings d.before) d.bytes).master
  pub told : d.did ≡ (accepted (view_of d.settings d.before) d.bytes).did
  pub reached : IsRun (OfMaster d.settings) d.before
  pub read : AreBytes d.bytes

-- a delivery is under way: it did what its deed does but for the sending, and the master waits in it; where no frame is
-- due, the master is after it too
pub record IsUnderWay (master : MasterView) (d : Delivery) : Type 0 where
  pub did : d.did ≡ record (its_deed d).did { sent = false }
  pub waits : Waits master d
  pub is_after : is_due master.state ≡ false → MasterIsAfter d.settings master (with_delivery d)

-- a master that was after some deeds accepted these bytes and did this: their delivery is under way
pub record Accepts (old : MasterView) (bytes : List ℕ) (done : Did) (new : MasterView) : Type 0 where
  pub under_way : (settings : MasterSettings) (deeds : List Deed) → MasterIsAfter settings old deeds
      → IsUnderWay new (record { settings = settings; before = deeds; bytes = bytes; did = done })

-- a master that waited in a delivery waits in it still, as if this event had come before it
pub record Keeps (old : MasterView) (event : Move) (new : MasterView) : Type 0 where
  pub waits : (d : Delivery) → Waits old d → Waits new (preceded_by event d)

-- a master that waited in a delivery is after it, and did and sent what its deed does and sends
pub record Replies (old new : MasterView) (frame : List ℕ) : Type 0 where
  pub is_after : (d : Delivery) → Waits old d → MasterIsAfter d.settings new (with_delivery d)
  pub did : (d : Delivery) → Waits old d → (its_deed d).did ≡ record d.did { sent = is_due old.state }
  pub sent : (d : Delivery) → Waits old d → frame ≡ (its_deed d).sent

-- what a master that waits in a delivery shows is this word of the deeds with it, as if its frame had been sent
pub record ShowsDue {X : Type 0} (master : MasterView) (shown : X) (word : Setup → List Deed → X) : Type 0 where
  pub shows : (d : Delivery) → Waits master d → shown ≡ word (OfMaster d.settings) (with_delivery d)
