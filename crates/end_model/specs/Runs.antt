-- What a run of an end is: deeds, each of which is what the end does next, at moves that may come.
use Rattle.std.specs.Prelude.{◌≡◌, IsTrue, List, [], ◌∷◌, ◌++◌, length}
use Rattle.param_load.specs.Profile.{allows_id}
use Rattle.param_load.specs.declared.entry.Entry.{Entry}
use Rattle.param_load.specs.declared.entry.Move.{Move}
use Rattle.param_load.specs.declared.entry.Move.TheVariants as move
use Rattle.param_load.specs.declared.profile.Profile.{Profile}
use Rattle.end_model.specs.Deed.{Deed}
use Rattle.end_model.specs.Entries.{entry_of}
use Rattle.end_model.specs.Setup.{Setup, OfMaster, OfSlave, sends}
use Rattle.end_model.specs.Step.{step}

-- the setup is a master's
abbrev pub IsMaster : Setup → Type 0
IsMaster (OfMaster ms) = Unit {0}
IsMaster (OfSlave ss) = ⊥

-- the setup is a slave's
abbrev pub IsSlave : Setup → Type 0
IsSlave (OfMaster ms) = ⊥
IsSlave (OfSlave ss) = Unit {0}

-- the profile of parameters
abbrev pub profile_of : Setup → Profile
profile_of (OfMaster ms) = ms.profile
profile_of (OfSlave ss) = ss.profile

-- an event sets the offer, the hold or the nonce
abbrev pub IsSetting : Move → Type 0
IsSetting (move.Put load) = Unit {0}
IsSetting (move.Hold failsafe) = Unit {0}
IsSetting (move.Nonce id) = Unit {0}
IsSetting _ = ⊥

-- the events of these deeds, the first of which comes first
abbrev pub events_of : List Deed → List Move
events_of [] = []
events_of (x ∷ e) = events_of e ++ x.what ∷ []

-- a put has the end's own length, and a nonce is one that the profile allows
abbrev pub IsProper : Setup → Move → Type 0
IsProper s (move.Put load) = length load ≡ sends s
IsProper s (move.Nonce id) = IsTrue (allows_id (profile_of s) id)
IsProper s _ = Unit {0}

-- a deed is the next one after these
pub record IsNext (s : Setup) (x : Deed) (e : List Deed) : Type 0 where
  pub proper : IsProper s x.what
  pub stepped : x ≡ step s e x.what

-- each deed is the next one after those before it
abbrev pub IsRun : Setup → List Deed → Type 0
IsRun s [] = Unit {0}
IsRun s (x ∷ e) = IsNext s x e × IsRun s e

-- what is told of each deed
abbrev pub entries : Setup → List Deed → List Entry
entries s [] = []
entries s (x ∷ e) = entry_of s e x ∷ entries s e
