-- Several pairs over a schedule with common ticks: what an event of all is to each pair, and what each does. Pairs are
-- numbered from 1 in their order. Events of all pairs are listed newest first, those of one pair oldest first, and
-- entries newest first.
use Rattle.std.specs.Prelude.{ℕ, suc, ◌==◌, min, List, [], ◌∷◌, ◌++◌, length, Bool, true, false, Option, Some, None, is_some, if◌then◌else◌}
use Rattle.fsoe_base.specs.declared.command.End.TheVariants as side
use Rattle.param_load.specs.declared.entry.Entry.{Entry}
use Rattle.param_load.specs.declared.master_settings.MasterSettings.{MasterSettings}
use Rattle.param_load.specs.declared.slave_settings.SlaveSettings.{SlaveSettings}
use Rattle.schedule_file.specs.PairsEvent.{numbered}
use Rattle.schedule_file.specs.declared.event.Event.{Event}
use Rattle.schedule_file.specs.declared.event.Event.TheVariants as event
use Rattle.schedule_file.specs.declared.pairs_line.PairsEvent.{PairsEvent}
use Rattle.schedule_file.specs.declared.pairs_line.PairsEvent.TheVariants as pairs_event
use Rattle.exchange_model.specs.Other.{first_of_both, first_other}
use Rattle.exchange_model.specs.World.{entry_at, world}

-- what both ends of a pair are set to
pub record Pair : Type 0 where
  pub master : MasterSettings
  pub slave : SlaveSettings

-- what an event of all is to the pair of this number: a tick is one of its slave and later, in the same event, one of
-- its master
abbrev pub events_by : ℕ → PairsEvent → List Event
events_by k pairs_event.Tick = event.Tick side.Slave ∷ event.Tick side.Master ∷ []
events_by k (pairs_event.One pair own) = if pair == k then own ∷ [] else []

-- what these are to it
abbrev pub events_to : ℕ → List PairsEvent → List Event
events_to k [] = []
events_to k (event ∷ past) = events_to k past ++ events_by k event

-- the entries of a pair over events of its own
abbrev pub entries_over : Pair → List Event → List Entry
entries_over p own = world p.master p.slave own

-- the entries of the pair of this number: those of its own world, over its own events
abbrev pub world_of : ℕ → Pair → List PairsEvent → List Entry
world_of k p past = entries_over p (events_to k past)

-- the entry of the next event of a pair after these of its own, if there is one
abbrev pub entry_after : Pair → List Event → Event → Option Entry
entry_after p own event = entry_at p.master p.slave (entries_over p own) event

-- whether the event of the pair of this number has its entry
abbrev pub is_met_by : ℕ → List PairsEvent → Event → Option Pair → Bool
is_met_by k past own None = false
is_met_by k past own (Some p) = is_some (entry_after p (events_to k past) own)

-- whether an event has its entries after these: no frame that it names wasn't sent
abbrev pub is_met : List Pair → List PairsEvent → PairsEvent → Bool
is_met pairs past pairs_event.Tick = true
is_met pairs past (pairs_event.One k own) = is_met_by k past own (numbered k pairs)

-- the events that are done, where those were done before: the first one without its entry ends the run of all
abbrev pub done_after : List Pair → List PairsEvent → List PairsEvent → List PairsEvent
done_after pairs [] past = past
done_after pairs (event ∷ events) past = if is_met pairs past event then done_after pairs events (event ∷ past) else past

-- of these events, which come oldest first, those that are done, newest first
abbrev pub events_done : List Pair → List PairsEvent → List PairsEvent
events_done pairs events = done_after pairs events []

-- the number of the event of all, from 1, after which the world of the pair of this number first has an other entry, if
-- there is one
abbrev pub other_event : ℕ → Pair → List PairsEvent → Option ℕ
other_event k p [] = None
other_event k p (event ∷ past) = first_of_both (other_event k p past) (is_some (first_other (world_of k p (event ∷ past)))) (suc (length past))

-- these numbers of the pairs in their order, the first of which has this number
abbrev pub other_events : ℕ → List Pair → List PairsEvent → List (Option ℕ)
other_events k [] past = []
other_events k (p ∷ pairs) past = other_event k p past ∷ other_events (suc k) pairs past

-- the less of two numbers, where there are any
abbrev pub less_of : Option ℕ → Option ℕ → Option ℕ
less_of None other = other
less_of (Some n) None = Some n
less_of (Some n) (Some other) = Some (min n other)

-- the least of numbers, where there are any
abbrev pub least : List (Option ℕ) → Option ℕ
least [] = None
least (n ∷ others) = less_of n (least others)
