-- A pair is a world of proper events where the deeds of both its ends are runs; and the law of the pair holds of
-- worlds.
use Rattle.plant_model.proofs.Common.{End, Entry, Fair, HasSameLengths, IsNextEntry, IsWorld, JournalStep, LinkConf, MasterSettings, Move, OfMaster, OfSlave, PairsAreFair, SameLengths, SlaveSettings, before_other, deed_in, deeds, end_of_event, entry_on, fair_world, frames_of, going_on, link_at, move_from, next_entry, own_events, pair, peer, same_end, setup_of, world_after}
use Rattle.std.proofs.Common.{◌≡◌, ℕ, zero, suc, List, [], ◌∷◌, slice_get, Option, Some, if◌then◌else◌, arith}
use Rattle.fsoe_base.specs.declared.command.End.TheVariants as side
use Rattle.schedule_file.specs.declared.event.Event.{Event}
use Rattle.end_model.specs.Runs.{IsRun}
use Rattle.exchange_model.proofs.Worlds.Others.{before_is_clean, before_is_world}
use Rattle.plant_model.proofs.Proper.{has_same, if_some}

-- each entry is the next one of its end after those before it
abbrev pub AreNext : MasterSettings → SlaveSettings → List Entry → Type 0
AreNext ms ss [] = Unit {0}
AreNext ms ss (x ∷ w) = (x ≡ next_entry (setup_of ms ss x.end) (deeds x.end w) x.what) × AreNext ms ss w

next_on : (ms : MasterSettings) (ss : SlaveSettings) (events : List Event) (w : List Entry) (end : End) (what : Option Move) → AreNext ms ss w
    → ((x : Entry) → AreNext ms ss (x ∷ w) → AreNext ms ss (world_after ms ss events (x ∷ w)))
    → AreNext ms ss (going_on w (entry_on (setup_of ms ss end) (deeds end w) what) (world_after ms ss events))
next_on ms ss events w end what h k = grind arith

pub are_next : (ms : MasterSettings) (ss : SlaveSettings) (events : List Event) (w : List Entry) → AreNext ms ss w → AreNext ms ss (world_after ms ss events w)
are_next ms ss [] w h = h
are_next ms ss (e ∷ events) w h =
    next_on ms ss events w (end_of_event e) (move_from (frames_of (peer (end_of_event e)) w) e) h (λ x g. are_next ms ss events (x ∷ w) g)

-- an entry is proper where it ends the runs of both ends, which it goes on from
before : (ms : MasterSettings) (ss : SlaveSettings) (end : End) (x : Entry) (w : List Entry) → x ≡ next_entry (setup_of ms ss end) (deeds end w) x.what
    → IsRun (OfMaster ms) (if same_end side.Master end then deed_in x ∷ deeds side.Master w else deeds side.Master w)
    → IsRun (OfSlave ss) (if same_end side.Slave end then deed_in x ∷ deeds side.Slave w else deeds side.Slave w)
    → IsNextEntry (setup_of ms ss end) x (deeds end w) × IsRun (OfMaster ms) (deeds side.Master w) × IsRun (OfSlave ss) (deeds side.Slave w)
before ms ss end x w h k l = grind arith

is_world : (ms : MasterSettings) (ss : SlaveSettings) (w : List Entry) → AreNext ms ss w → IsRun (OfMaster ms) (deeds side.Master w) → IsRun (OfSlave ss) (deeds side.Slave w) → IsWorld ms ss w
is_world ms ss [] h m s = tt
is_world ms ss (x ∷ w) h m s = let b = before ms ss x.end x w h.0 m s in (b.0, is_world ms ss w h.1 b.1 b.2)

-- the pair of a connection, which is a world of ends with equal lengths
pub record WorldOf (link : LinkConf) (k : ℕ) (steps : List JournalStep) : Type 0 where
  pub lengths : SameLengths link.master link.slave
  pub world : IsWorld link.master link.slave (pair link k steps)

pub world_of_runs : (link : LinkConf) (k : ℕ) (steps : List JournalStep) → HasSameLengths link → IsRun (OfMaster link.master) (deeds side.Master (pair link k steps)) → IsRun (OfSlave link.slave) (deeds side.Slave (pair link k steps))
    → WorldOf link k steps
world_of_runs link k steps e m s = record {
  lengths = has_same link e;
  world = is_world link.master link.slave (pair link k steps) (are_next link.master link.slave (own_events k steps) [] tt) m s;
}

-- so it is of each of these connections
abbrev pub AreWorlds : List LinkConf → List JournalStep → Type 0
AreWorlds links steps = (place : ℕ) (link : LinkConf) → slice_get links place ≡ Some link → WorldOf link (suc place) steps

pub world_at : (links : List LinkConf) (steps : List JournalStep) (k : ℕ) (link : LinkConf) → AreWorlds links steps → link_at links k ≡ Some link → WorldOf link k steps
world_at links steps zero link are is = absurd (cc is)
world_at links steps (suc place) link are is = are place link is

pub worlds_are_fair : (links : List LinkConf) (steps : List JournalStep) → AreWorlds links steps → PairsAreFair links steps
worlds_are_fair links steps are = λ k. if_some (λ link. Fair link.master.lengths (before_other (pair link k steps))) (link_at links k) (λ link is.
    let w = world_at links steps k link are is in
    let all : List Entry = pair link k steps in
    fair_world link.master link.slave (before_other all) w.lengths (before_is_world link.master link.slave all w.world) (before_is_clean all))
