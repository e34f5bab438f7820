-- What both ends do over a schedule: the list of their entries, newest first. What an end does looks back over its own
-- deeds, and a frame that comes from its peer is found among those that the peer sent. Schedules are this profile's
-- own.
use Rattle.std.specs.Prelude.{ℕ, ◌≡◌, List, [], ◌∷◌, Option, Some, None, if◌then◌else◌}
use Rattle.fsoe_base.specs.declared.command.End.{End}
use Rattle.fsoe_base.specs.declared.command.End.TheVariants as side
use Rattle.param_load.specs.declared.entry.Move.{Move}
use Rattle.param_load.specs.declared.entry.Move.TheVariants as move
use Rattle.param_load.specs.declared.entry.Entry.{Entry}
use Rattle.param_load.specs.declared.master_settings.MasterSettings.{MasterSettings}
use Rattle.param_load.specs.declared.slave_settings.SlaveSettings.{SlaveSettings}
use Rattle.black_channel.specs.Altered.{altered, back_th}
use Rattle.schedule_file.specs.declared.event.Event.{Event}
use Rattle.schedule_file.specs.declared.event.Event.TheVariants as event
use Rattle.end_model.specs.Setup.{Setup, OfMaster, OfSlave}
use Rattle.end_model.specs.Deed.{Deed}
use Rattle.end_model.specs.Chain.{own}
use Rattle.end_model.specs.Step.{step}
use Rattle.end_model.specs.Entries.{entry_of}
use Rattle.exchange_model.specs.Ends.{same_end, peer}

-- what an end is set to
abbrev pub setup_of : MasterSettings → SlaveSettings → End → Setup
setup_of ms ss side.Master = OfMaster ms
setup_of ms ss side.Slave = OfSlave ss

-- the deed that an entry tells
abbrev pub deed_in : Entry → Deed
deed_in x = record { what = x.what; did = x.did; sent = x.sent }

-- the deeds of one end
abbrev pub deeds : End → List Entry → List Deed
deeds which [] = []
deeds which (x ∷ w) = if same_end which x.end then deed_in x ∷ deeds which w else deeds which w

-- the frames that an end sent, Reset frames too
abbrev pub frames_of : End → List Entry → List (List ℕ)
frames_of which w = own (deeds which w)

-- the end at which an event happens
abbrev pub end_of_event : Event → End
end_of_event (event.Deliver to back) = to
end_of_event (event.Altered to back pos mask) = to
end_of_event (event.Raw to frame) = to
end_of_event (event.Tick at) = at
end_of_event (event.Put at load) = at
end_of_event (event.Hold at failsafe) = at
end_of_event (event.Nonce at id) = at
end_of_event (event.Local at) = at

-- a frame comes as it was sent, if it was
abbrev pub delivery : Option (List ℕ) → Option Move
delivery None = None
delivery (Some frame) = Some (move.Deliver frame)

-- a frame comes with one byte altered, if it was sent
abbrev pub altered_delivery : ℕ → ℕ → Option (List ℕ) → Option Move
altered_delivery pos mask None = None
altered_delivery pos mask (Some frame) = Some (move.Deliver (altered pos mask frame))

-- what an event means for its end, by the frames that the peer sent; None where it names one that the peer didn't send
abbrev pub move_from : List (List ℕ) → Event → Option Move
move_from frames (event.Deliver to back) = delivery (back_th back frames)
move_from frames (event.Altered to back pos mask) = altered_delivery pos mask (back_th back frames)
move_from frames (event.Raw to frame) = Some (move.Deliver frame)
move_from frames (event.Tick at) = Some move.Tick
move_from frames (event.Put at load) = Some (move.Put load)
move_from frames (event.Hold at failsafe) = Some (move.Hold failsafe)
move_from frames (event.Nonce at id) = Some (move.Nonce id)
move_from frames (event.Local at) = Some move.Local

-- the next entry of an end, where e are its deeds
abbrev pub next_entry : Setup → List Deed → Move → Entry
next_entry s e what = entry_of s e (step s e what)

-- the next entry of an end, if something happens to it
abbrev pub entry_on : Setup → List Deed → Option Move → Option Entry
entry_on s e None = None
entry_on s e (Some what) = Some (next_entry s e what)

-- the entry of an event after these entries; None where it names a frame that wasn't sent
abbrev pub entry_at : MasterSettings → SlaveSettings → List Entry → Event → Option Entry
entry_at ms ss w event =
    let at : End = end_of_event event in
    entry_on (setup_of ms ss at) (deeds at w) (move_from (frames_of (peer at) w) event)

-- the entries that follow an entry, if there is one; else the run stops
abbrev pub going_on : List Entry → Option Entry → (List Entry → List Entry) → List Entry
going_on w None rest = w
going_on w (Some x) rest = rest (x ∷ w)

-- the entries after these events, where w are those before; an event that names a frame that wasn't sent stops the run
abbrev pub world_after : MasterSettings → SlaveSettings → List Event → List Entry → List Entry
world_after ms ss [] w = w
world_after ms ss (event ∷ events) w = going_on w (entry_at ms ss w event) (world_after ms ss events)

-- the entries of two new ends over a schedule
abbrev pub world : MasterSettings → SlaveSettings → List Event → List Entry
world ms ss events = world_after ms ss events []

-- both ends are set to the same lengths
pub record SameLengths (ms : MasterSettings) (ss : SlaveSettings) : Type 0 where
  pub master : ms.lengths.master ≡ ss.lengths.master
  pub slave : ms.lengths.slave ≡ ss.lengths.slave
