-- What it means that a pair of ends does over a schedule what the definitions of a world say. Lists are newest first.
use Rattle.std.specs.Prelude.{◌≡◌, ℕ, false, List, ◌∷◌, Some, None, length, ◌+◌, ◌^◌, ◌<◌}
use Rattle.fsoe_base.specs.declared.command.End.{End}
use Rattle.fsoe_base.specs.declared.command.End.TheVariants as side
use Rattle.fsoe_base.specs.declared.did.Did.{Did}
use Rattle.fsoe_base.specs.declared.lengths.Lengths.{Lengths}
use Rattle.fsoe_base.specs.declared.command.State.{State}
use Rattle.param_load.specs.declared.entry.Entry.{Entry}
use Rattle.param_load.specs.declared.master_settings.MasterSettings.{MasterSettings}
use Rattle.param_load.specs.declared.profile.Profiles.{Profiles}
use Rattle.param_load.specs.declared.slave_settings.SlaveSettings.{SlaveSettings}
use Rattle.black_channel.specs.Window.{WindowView, window_of}
use Rattle.schedule_file.specs.declared.event.Event.{Event}
use Rattle.schedule_file.specs.Header.{Heading}
use Rattle.exchange_model.specs.World.{deeds, frames_of, end_of_event, entry_at, SameLengths, world}
use Rattle.exchange_model.specs.Worlds.{IsWorld}
use Rattle.exchange_model.specs.Monitor as monitor
use Rattle.exchange_model.specs.Monitor.{MonitorView}
use Rattle.master_core.specs.MasterView.{MasterView}
use Rattle.master_core.specs.Now.{is_due}
use Rattle.master_core.specs.Standing.{MasterIsAfter}
use Rattle.slave_core.specs.SlaveView.{SlaveView}
use Rattle.slave_core.specs.Standing.{SlaveIsAfter}
use Rattle.duo_run.specs.Replay.{entry_lines, AreSetTo}
use Rattle.duo_run.specs.declared.summary.Summary.{Summary}
use Rattle.duo_run.specs.declared.summary.Counts.{Counts}
use Rattle.duo_run.specs.Summary.{summary_of}

-- what contracts see of a pair: both ends, the last frames that each sent, and the monitor
pub record DuoView : Type 0 where
  pub master : MasterView
  pub slave : SlaveView
  pub master_sent : WindowView
  pub slave_sent : WindowView
  pub monitor : MonitorView

-- the last frames that an end sent
abbrev pub sent_by : End → DuoView → WindowView
sent_by side.Master v = v.master_sent
sent_by side.Slave v = v.slave_sent

-- the lengths of the connection, which both ends have
abbrev pub lengths_of : DuoView → Lengths
lengths_of v = v.master.kit.settings.lengths

-- the profiles of both ends
abbrev pub profiles_of : DuoView → Profiles
profiles_of v = record { master = v.master.kit.settings.profile; slave = v.slave.kit.settings.profile }

-- the steps that were done
abbrev pub steps_done : DuoView → ℕ
steps_done v = v.monitor.noted

-- between steps no frame of the master is due, and both ends always have the same lengths
pub record IsDuo (v : DuoView) : Type 0 where
  pub rest : is_due v.master.state ≡ false
  pub same : SameLengths v.master.kit.settings v.slave.kit.settings

-- a pair stands for these entries: they are a world, each end is where its own deeds among them leave it, each window
-- has the last of the frames that its end sent, and the monitor has noted them all
pub record DuoStands (ms : MasterSettings) (ss : SlaveSettings) (v : DuoView) (w : List Entry) : Type 0 where
  pub master : MasterIsAfter ms v.master (deeds side.Master w)
  pub slave : SlaveIsAfter ss v.slave (deeds side.Slave w)
  pub master_sent : v.master_sent ≡ window_of (frames_of side.Master w)
  pub slave_sent : v.slave_sent ≡ window_of (frames_of side.Slave w)
  pub monitor : v.monitor ≡ monitor.view_of w
  pub world : IsWorld ms ss w

-- at this event a pair does the next entry of the world, which is this one, and stands then for it and those before
pub record Steps (old : DuoView) (event : Event) (x : Entry) (new : DuoView) : Type 0 where
  pub entry : (ms : MasterSettings) (ss : SlaveSettings) (w : List Entry) → DuoStands ms ss old w → entry_at ms ss w event ≡ Some x
  pub stands : (ms : MasterSettings) (ss : SlaveSettings) (w : List Entry) → DuoStands ms ss old w → DuoStands ms ss new (x ∷ w)

-- the entry of an event after these, in which its end did this and sent this frame; a pair stands then for it and those
-- before
pub record NextEntry (ms : MasterSettings) (ss : SlaveSettings) (w : List Entry) (event : Event) (did : Did) (sent : List ℕ) (new : DuoView) : Type 0 where
  pub entry : Entry
  pub next : entry_at ms ss w event ≡ Some entry
  pub stands : DuoStands ms ss new (entry ∷ w)
  pub end_is : entry.end ≡ end_of_event event
  pub did_is : entry.did ≡ did
  pub sent_is : entry.sent ≡ sent

-- at this event a pair does the next entry of the world, in which its end did this and sent this frame
pub record Advances (old : DuoView) (event : Event) (did : Did) (sent : List ℕ) (new : DuoView) : Type 0 where
  pub next : (ms : MasterSettings) (ss : SlaveSettings) (w : List Entry) → DuoStands ms ss old w → NextEntry ms ss w event did sent new

-- what a pair shows of an end is this word of the last entry, where that is one of the end
pub record ShowsLast {X : Type 0} (v : DuoView) (at : End) (shown : X) (word : Entry → X) : Type 0 where
  pub shows : (ms : MasterSettings) (ss : SlaveSettings) (x : Entry) (w : List Entry) → DuoStands ms ss v (x ∷ w) → x.end ≡ at → word x ≡ shown

-- the world has no entry of this event: it names a frame that wasn't sent
pub record Misses (v : DuoView) (event : Event) : Type 0 where
  pub misses : (ms : MasterSettings) (ss : SlaveSettings) (w : List Entry) → DuoStands ms ss v w → entry_at ms ss w event ≡ None

-- a pair was set to what a header says, and stands for the entries of these events, one each, of which this text has
-- the lines
pub record ReplayStands (v : DuoView) (h : Heading) (log : List Event) (text : List ℕ) : Type 0 where
  pub ms : MasterSettings
  pub ss : SlaveSettings
  pub entries : List Entry
  pub set : AreSetTo h ms ss
  pub stands : DuoStands ms ss v entries
  pub is_world : entries ≡ world ms ss log
  pub whole : length entries ≡ length log
  pub lines : text ≡ entry_lines entries

-- a summary of some entries is one of these and the next, which is of this end, did this and told this state
pub record CountsEntry (old : Summary) (at : End) (did : Did) (state : State) (new : Summary) : Type 0 where
  pub counts : (x : Entry) (w : List Entry) → x.end ≡ at → x.did ≡ did → x.state ≡ state → old ≡ summary_of w → new ≡ summary_of (x ∷ w)

-- one entry more can be counted
pub record HasRoom (counts : Counts) : Type 0 where
  pub taken : counts.taken + 1 < 2 ^ 64
  pub resets : counts.resets + 1 < 2 ^ 64
  pub drops : counts.drops + 1 < 2 ^ 64
