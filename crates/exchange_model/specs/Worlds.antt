-- Which events are proper, and which lists of entries are worlds: what both ends do, over whatever comes.
use Rattle.std.specs.Prelude.{◌≡◌, List, [], ◌∷◌}
use Rattle.param_load.specs.declared.entry.Entry.{Entry}
use Rattle.param_load.specs.declared.entry.Move.TheVariants as move
use Rattle.param_load.specs.declared.master_settings.MasterSettings.{MasterSettings}
use Rattle.param_load.specs.declared.slave_settings.SlaveSettings.{SlaveSettings}
use Rattle.schedule_file.specs.declared.event.Event.{Event}
use Rattle.schedule_file.specs.declared.event.Event.TheVariants as event
use Rattle.end_model.specs.Deed.{Deed}
use Rattle.end_model.specs.Setup.{Setup}
use Rattle.end_model.specs.Runs.{IsProper}
use Rattle.exchange_model.specs.World.{deeds, next_entry, setup_of}

-- a put has its end's length, and a nonce is one that its end's profile allows
abbrev pub IsProperEvent : MasterSettings → SlaveSettings → Event → Type 0
IsProperEvent ms ss (event.Put at load) = IsProper (setup_of ms ss at) (move.Put load)
IsProperEvent ms ss (event.Nonce at id) = IsProper (setup_of ms ss at) (move.Nonce id)
IsProperEvent ms ss _ = Unit {0}

-- an entry is the next one of its end after these, at a proper event
pub record IsNextEntry (s : Setup) (x : Entry) (e : List Deed) : Type 0 where
  pub proper : IsProper s x.what
  pub stepped : x ≡ next_entry s e x.what

-- each entry is the next one of its end after those before it, at a proper event
abbrev pub IsWorld : MasterSettings → SlaveSettings → List Entry → Type 0
IsWorld ms ss [] = Unit {0}
IsWorld ms ss (x ∷ w) = IsNextEntry (setup_of ms ss x.end) x (deeds x.end w) × IsWorld ms ss w
