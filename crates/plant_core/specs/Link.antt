-- What a plant keeps of one connection beside its master: its slave, what notes the entries of its pair, and whether it
-- is cut. Entries are listed newest first.
use Rattle.std.specs.Prelude.{◌≡◌, ℕ, ◌+◌, Bool, true, false, List, [], Option, Some, None, IfSome, is_some}
use Rattle.fsoe_base.specs.declared.command.End.{End}
use Rattle.fsoe_base.specs.declared.command.End.TheVariants as side
use Rattle.fsoe_base.specs.declared.did.Did.{Did}
use Rattle.fsoe_base.specs.declared.lengths.Lengths.{Lengths}
use Rattle.param_load.specs.declared.entry.Entry.{Entry}
use Rattle.plant_conf.specs.declared.conf.LinkConf.{LinkConf}
use Rattle.exchange_model.specs.Monitor.{MonitorView}
use Rattle.exchange_model.specs.Monitor as monitor
use Rattle.exchange_model.specs.World.{deeds}
use Rattle.reaction_bound.specs.Ages.{AgesView}
use Rattle.reaction_bound.specs.Ages as ages
use Rattle.slave_core.specs.SlaveView.{SlaveView}
use Rattle.slave_core.specs.Standing.{SlaveIsAfter}
use Rattle.slave_core.specs.ViewOf.{view_of}
use Rattle.plant_core.specs.declared.watch.Watch.{Watch}
use Rattle.plant_core.specs.declared.watch.Watch.TheVariants as watch

-- the monitor that notes the entries of a pair: by itself, or as a part of what tells the ages of the outputs
abbrev pub monitor_in : Watch → MonitorView
monitor_in (watch.Plain items) = items
monitor_in (watch.Aged ages) = ages.monitor

-- what tells the ages of the outputs, where they are told
abbrev pub ages_in : Watch → Option AgesView
ages_in (watch.Plain items) = None
ages_in (watch.Aged ages) = Some ages

-- ages noted an entry with these parts, where they are told
abbrev pub AgesNote : Option AgesView → End → Bool → List ℕ → Did → List ℕ → Option ℕ → Option AgesView → Type 0
AgesNote None at tick came did sent watchdog new = new ≡ None
AgesNote (Some old) at tick came did sent watchdog None = ⊥
AgesNote (Some old) at tick came did sent watchdog (Some new) = ages.NotesParts old at tick came did sent watchdog new

-- what is kept beside the master of a connection
pub record LinkView : Type 0 where
  pub slave : SlaveView
  pub monitor : MonitorView
  pub ages : Option AgesView
  pub cut : Bool

-- ages that noted nothing yet, where they are to be told
abbrev pub new_ages : Bool → Option AgesView
new_ages true = Some (ages.view_of [])
new_ages false = None

-- a new slave of a connection that isn't cut, whose ages are told or not
abbrev pub new_link : Bool → LinkConf → LinkView
new_link aged link = record {
  slave = view_of link.slave [];
  monitor = monitor.view_of [];
  ages = new_ages aged;
  cut = false;
}

-- it stands for these entries of the pair of this connection: the slave is where its own deeds among them leave it, and
-- the monitor has noted them all; so have the ages, if they are told
pub record LinkStands (link : LinkConf) (v : LinkView) (w : List Entry) : Type 0 where
  pub slave : SlaveIsAfter link.slave v.slave (deeds side.Slave w)
  pub monitor : v.monitor ≡ monitor.view_of w
  pub ages : IfSome v.ages (λ a. a ≡ ages.view_of w)

-- what of a connection never changes: the lengths of its slave, and whether the ages of its outputs are told
pub record Fixed : Type 0 where
  pub lengths : Lengths
  pub aged : Bool

abbrev pub fixed_of : LinkView → Fixed
fixed_of v = record { lengths = v.slave.kit.settings.lengths; aged = is_some v.ages }

-- one entry more was noted; what never changes, and whether it is cut, stay
pub record NotesOne (old new : LinkView) : Type 0 where
  pub noted : new.monitor.noted ≡ old.monitor.noted + 1
  pub fixed : fixed_of new ≡ fixed_of old
  pub cut : new.cut ≡ old.cut

-- an entry of this end with these parts was noted, and nothing else changed
pub record IsNoted (at : End) (tick : Bool) (came : List ℕ) (did : Did) (sent : List ℕ) (watchdog : Option ℕ) (old new : LinkView) : Type 0 where
  pub monitor : monitor.NotesParts old.monitor at came did sent new.monitor
  pub ages : AgesNote old.ages at tick came did sent watchdog new.ages
  pub slave : new.slave ≡ old.slave
  pub notes : NotesOne old new
