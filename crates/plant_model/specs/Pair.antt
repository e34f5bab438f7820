-- The entries of the connections of a plant: those of the world of the events that the plant's journal means for each.
-- Steps of a journal and events are listed oldest first, entries newest first.
use Rattle.std.specs.Prelude.{ℕ, zero, suc, ◌==◌, Bool, true, false, List, [], ◌∷◌, Option, Some, None, is_some, slice_get, if◌then◌else◌}
use Rattle.std.specs.List.{flat_map, count_by}
use Rattle.fsoe_base.specs.declared.command.End.{End}
use Rattle.fsoe_base.specs.declared.command.End.TheVariants as side
use Rattle.fsoe_base.specs.declared.command.State.{State}
use Rattle.param_load.specs.declared.entry.Entry.{Entry}
use Rattle.schedule_file.specs.declared.event.Event.{Event}
use Rattle.schedule_file.specs.declared.event.Event.TheVariants as event
use Rattle.plant_conf.specs.declared.conf.LinkConf.{LinkConf}
use Rattle.end_model.specs.Readiness.{state_of}
use Rattle.end_model.specs.Outputs.{out}
use Rattle.exchange_model.specs.World.{setup_of, deeds, world, next_entry}
use Rattle.exchange_model.specs.Other.{first_other}
use Rattle.plant_model.specs.declared.event.PlantEvent.{PlantEvent}
use Rattle.plant_model.specs.declared.event.PlantEvent.TheVariants as plant_event
use Rattle.plant_model.specs.declared.journal.JournalStep.{JournalStep}
use Rattle.plant_model.specs.declared.journal.JournalStep.TheVariants as journal_step
use Rattle.param_load.specs.declared.entry.Move.{Move}

-- this event where the numbers are the same, and else none
abbrev pub if_same : ℕ → ℕ → Event → List Event
if_same link k event = if link == k then event ∷ [] else []

-- what an event of the script means for connection k: a tick is one of its slave and then one of its master; the others
-- are at its slave, but that a session id is set at the end that is named. Whether a connection is cut means nothing
-- for its ends
abbrev pub script_part : ℕ → PlantEvent → List Event
script_part k plant_event.Tick = event.Tick side.Slave ∷ event.Tick side.Master ∷ []
script_part k (plant_event.Put link load) = if_same link k (event.Put side.Slave load)
script_part k (plant_event.Hold link failsafe) = if_same link k (event.Hold side.Slave failsafe)
script_part k (plant_event.Local link) = if_same link k (event.Local side.Slave)
script_part k (plant_event.Nonce link end id) = if_same link k (event.Nonce end id)
script_part k (plant_event.Cut link cut) = []

-- what a step of the journal means for connection k: an offer is put at its master, and a parcel that was pulled for
-- one of its ends comes there with its bytes, whatever they are. Another application means nothing for its ends
abbrev pub own_part : ℕ → JournalStep → List Event
own_part k (journal_step.Script event) = script_part k event
own_part k journal_step.App = []
own_part k (journal_step.Offer link load) = if_same link k (event.Put side.Master load)
own_part k (journal_step.Pulled parcel) = if_same parcel.to.link k (event.Raw parcel.to.end parcel.frame)

-- the events of connection k in a journal
abbrev pub own_events : ℕ → List JournalStep → List Event
own_events k journal = flat_map (own_part k) journal

-- the entries of connection k, which is set so, by a journal: so what is shown of every world holds of them
abbrev pub pair : LinkConf → ℕ → List JournalStep → List Entry
pair link k journal = world link.master link.slave (own_events k journal)

-- the next entry of an end of a connection after these, in which this happens
abbrev pub next_of : End → Move → LinkConf → List Entry → Entry
next_of end what link w = next_entry (setup_of link.master link.slave end) (deeds end w) what

-- the entries of each pair by a journal
abbrev pub pairs_by : List JournalStep → ℕ → LinkConf → List Entry
pairs_by steps k link = pair link k steps

-- the connection with this number, from 1, if there is one
abbrev pub link_at : List LinkConf → ℕ → Option LinkConf
link_at links zero = None
link_at links (suc place) = slice_get links place

-- the state of an end of a connection after these entries
abbrev pub state_at : LinkConf → End → List Entry → State
state_at link end w = state_of (setup_of link.master link.slave end) (deeds end w)

-- its outputs after these entries
abbrev pub end_outputs : LinkConf → End → List Entry → List ℕ
end_outputs link end w = out (setup_of link.master link.slave end) (deeds end w)

-- whether the pair of connection k has an other entry by a journal
abbrev pub has_other : LinkConf → ℕ → List JournalStep → Bool
has_other link k journal = is_some (first_other (pair link k journal))

-- the lowest connection, from number k on, whose pair has an other entry
abbrev pub lowest_other : ℕ → List LinkConf → List JournalStep → Option ℕ
lowest_other k [] journal = None
lowest_other k (link ∷ links) journal = if has_other link k journal then Some k else lowest_other (suc k) links journal

-- whether an event of the script is a tick; a step may be one too
abbrev pub is_tick_event : PlantEvent → Bool
is_tick_event plant_event.Tick = true
is_tick_event _ = false

abbrev pub is_tick_step : JournalStep → Bool
is_tick_step (journal_step.Script event) = is_tick_event event
is_tick_step _ = false

-- how many parcels a plant pulls at most after a line of its script, where it is a tick, and where not
abbrev pub pulls_after : Bool → ℕ
pulls_after true = 64
pulls_after false = 0

-- the number of ticks in a journal
abbrev pub journal_ticks : List JournalStep → ℕ
journal_ticks journal = count_by is_tick_step journal
