-- Steady and honest schedules, under which a connection of matching ends comes to state Data and stays there, and after
-- how many exchanges. The words are this profile's own.
use Rattle.std.specs.Prelude.{ℕ, ◌+◌, ◌≡◌, ◌≤◌, ◌==◌, IsTrue, List, [], ◌∷◌, length, Bool, true, false, ◌&&◌, ◌||◌, not, Option, Some, None, if◌then◌else◌}
use Rattle.std.specs.List.{list_all}
use Rattle.fsoe_base.specs.declared.command.End.{End}
use Rattle.fsoe_base.specs.declared.command.End.TheVariants as side
use Rattle.fsoe_base.specs.declared.command.State.{State}
use Rattle.fsoe_base.specs.declared.command.State.TheVariants as state
use Rattle.param_load.specs.declared.entry.Move.{Move}
use Rattle.param_load.specs.declared.entry.Move.TheVariants as move
use Rattle.param_load.specs.declared.entry.Entry.{Entry}
use Rattle.param_load.specs.declared.master_settings.MasterSettings.{MasterSettings}
use Rattle.param_load.specs.declared.slave_settings.SlaveSettings.{SlaveSettings}
use Rattle.param_load.specs.AppRule.{rule_len, allows}
use Rattle.param_load.specs.Profile.{id_len}
use Rattle.schedule_file.specs.declared.event.Event.{Event}
use Rattle.schedule_file.specs.declared.event.Event.TheVariants as event
use Rattle.end_model.specs.Setup.{OfMaster, OfSlave, piece_len}
use Rattle.end_model.specs.Deed.{Deed}
use Rattle.end_model.specs.Payloads.{pieces_for}
use Rattle.end_model.specs.Readiness.{state_of, reaches_limit}
use Rattle.exchange_model.specs.Ends.{same_end, peer}
use Rattle.exchange_model.specs.World.{deeds, entry_at, SameLengths}

-- the settings of both ends match
pub record Match (ms : MasterSettings) (ss : SlaveSettings) : Type 0 where
  pub same_lengths : SameLengths ms ss
  pub same_address : ms.address ≡ ss.address
  pub same_profile : ms.profile ≡ ss.profile
  pub watchdog_accepted : ms.watchdog ≤ ss.most
  pub as_many_parameters : length ms.app ≡ rule_len ss.rule
  pub parameters_allowed : IsTrue (allows ss.rule ms.app)

-- the exchanges before the first data frame: one of Reset frames, then those of the session id, of the connection id
-- with the address, and of the parameters
abbrev pub exchanges : MasterSettings → ℕ
exchanges ms =
    let c : ℕ = piece_len (OfMaster ms) in
    let v : ℕ = id_len ms.profile in
    1 + pieces_for v c + pieces_for 4 c + pieces_for (v + 4 + length ms.app) c

-- whether an event may stand in a steady schedule: a delivery of the peer's last frame, a tick, a put, a hold or a
-- nonce
abbrev pub is_plain : Event → Bool
is_plain (event.Deliver to back) = back == 1
is_plain (event.Altered to back pos mask) = false
is_plain (event.Raw to frame) = false
is_plain (event.Local at) = false
is_plain _ = true

-- whether the deliveries go to this end and to its peer in turn
abbrev pub in_turn : End → List Event → Bool
in_turn next [] = true
in_turn next (event.Deliver to back ∷ events) = same_end to next && in_turn (peer next) events
in_turn next (_ ∷ events) = in_turn next events

-- whether the master has a tick, and before all deliveries
abbrev pub ticks_first : List Event → Bool
ticks_first [] = false
ticks_first (event.Deliver to back ∷ events) = false
ticks_first (event.Tick side.Master ∷ events) = true
ticks_first (_ ∷ events) = ticks_first events

-- whether the first delivery is to the slave: before it the slave sends nothing
abbrev pub slave_first : List Event → Bool
slave_first [] = true
slave_first (event.Deliver to back ∷ events) = same_end to side.Slave
slave_first (_ ∷ events) = slave_first events

-- whether an event is a tick
abbrev pub is_tick : Move → Bool
is_tick move.Tick = true
is_tick _ = false

-- whether an end had a tick
abbrev pub had_tick : List Deed → Bool
had_tick [] = false
had_tick (x ∷ e) = is_tick x.what || had_tick e

-- a slave in state Reset counts no tick
abbrev pub is_counted : State → Bool
is_counted state.Reset = false
is_counted _ = true

-- whether an end may have a tick now: the master's first tick reaches its limit, and no other tick of the master does,
-- and none of a slave outside state Reset
abbrev pub may_tick : MasterSettings → SlaveSettings → List Entry → End → Bool
may_tick ms ss w side.Master =
    let e : List Deed = deeds side.Master w in
    if had_tick e then not (reaches_limit (OfMaster ms) e) else reaches_limit (OfMaster ms) e
may_tick ms ss w side.Slave =
    let e : List Deed = deeds side.Slave w in
    not (is_counted (state_of (OfSlave ss) e) && reaches_limit (OfSlave ss) e)

-- whether an event may happen now, as far as ticks go
abbrev pub may_happen : MasterSettings → SlaveSettings → List Entry → Event → Bool
may_happen ms ss w (event.Tick at) = may_tick ms ss w at
may_happen ms ss w _ = true

-- what holds of the entries after an event, if the run goes on
abbrev pub if_on : List Entry → Option Entry → (List Entry → Bool) → Bool
if_on w None rest = true
if_on w (Some x) rest = rest (x ∷ w)

-- whether the ticks of a schedule keep within the limits, where w are the entries before
abbrev pub keeps_time : MasterSettings → SlaveSettings → List Event → List Entry → Bool
keeps_time ms ss [] w = true
keeps_time ms ss (event ∷ events) w = may_happen ms ss w event && if_on w (entry_at ms ss w event) (keeps_time ms ss events)

-- a steady schedule delivers the peer's last frames unaltered, in any order and any number of times, to the slave first;
-- the master's first tick comes before them, no later tick of the master and none of a slave outside state Reset reaches
-- its limit, and all else is puts, holds and nonces
pub record IsSteady (ms : MasterSettings) (ss : SlaveSettings) (events : List Event) : Type 0 where
  pub plain : IsTrue (list_all is_plain events)
  pub begun : IsTrue (ticks_first events)
  pub asked : IsTrue (slave_first events)
  pub time : IsTrue (keeps_time ms ss events [])

-- an honest schedule is a steady one that delivers to the slave and to the master in turn, the slave first
pub record IsHonest (ms : MasterSettings) (ss : SlaveSettings) (events : List Event) : Type 0 where
  pub steady : IsSteady ms ss events
  pub turns : IsTrue (in_turn side.Slave events)
