-- What it means that an end does what looking back says, whichever end it is.
use Rattle.std.specs.Prelude.{◌≡◌, ℕ, List, [], ◌∷◌}
use Rattle.fsoe_base.specs.declared.did.Did.{Did}
use Rattle.param_load.specs.declared.entry.Move.{Move}
use Rattle.end_model.specs.Setup.{Setup, OfMaster, OfSlave}
use Rattle.end_model.specs.Deed.{Deed}
use Rattle.end_model.specs.Step.{step}
use Rattle.master_core.specs.Standing.{MasterIsAfter}
use Rattle.slave_core.specs.Standing.{SlaveIsAfter}
use Rattle.end_core.specs.Core.{setup_of, IsAtRest}
use Rattle.end_core.specs.declared.one_end.Core.{Core}
use Rattle.end_core.specs.declared.one_end.Core.TheVariants as core

-- this end, which is set so, is where these deeds leave it; the settings are of the same end as the core
abbrev pub IsAfter : Setup → Core → List Deed → Type 0
IsAfter (OfMaster settings) (core.Master m) deeds = MasterIsAfter settings m deeds
IsAfter (OfSlave settings) (core.Slave s) deeds = SlaveIsAfter settings s deeds
IsAfter (OfMaster settings) (core.Slave s) deeds = ⊥
IsAfter (OfSlave settings) (core.Master m) deeds = ⊥

-- an end to which nothing happened yet
pub record IsNew (end : Core) : Type 0 where
  pub is_after : IsAfter (setup_of end) end []
  pub rest : IsAtRest end

-- an end that was after some deeds is, after this event, after these and the next one
pub record Follows (old : Core) (what : Move) (new : Core) : Type 0 where
  pub is_after : (s : Setup) (deeds : List Deed) → IsAfter s old deeds → IsAfter s new (step s deeds what ∷ deeds)

-- what an end does at this event, and the frame that it sends, are those of its next deed
pub record Answers (old : Core) (what : Move) (done : Did) (frame : List ℕ) : Type 0 where
  pub did : (s : Setup) (deeds : List Deed) → IsAfter s old deeds → done ≡ (step s deeds what).did
  pub sent : (s : Setup) (deeds : List Deed) → IsAfter s old deeds → frame ≡ (step s deeds what).sent

-- what an end shows is this word of the deeds that it is after
pub record Shows {X : Type 0} (end : Core) (shown : X) (word : Setup → List Deed → X) : Type 0 where
  pub shows : (s : Setup) (deeds : List Deed) → IsAfter s end deeds → shown ≡ word s deeds
