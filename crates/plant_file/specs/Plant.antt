-- What running a plant comes to by the text of its configuration: where no plant can be run with it, one line is
-- written and the script isn't read; else the plant runs over its script, and what `Ran` says holds of the run.
use Rattle.std.specs.Prelude.{◌≡◌, ◌≢◌, ℕ, ◌≤◌, ◌<◌, List, [], codes, length, map, slice_get, slice_set, Option, Some, None, IfSome, Result, Ok, Err}
use Rattle.fsoe_io.specs.Faults.{Rose}
use Rattle.fsoe_io.specs.declared.desk.LoadFault.{LoadFault}
use Rattle.fsoe_io.specs.declared.desk.LoadFault.TheVariants as load
use Rattle.fsoe_io.specs.declared.status.Ended.{Ended}
use Rattle.fsoe_io.specs.declared.status.Status.{Status}
use Rattle.fsoe_io.specs.declared.status.Status.TheVariants as status
use Rattle.file_run.specs.Ending.{Writes}
use Rattle.file_run.specs.Outside.{Outside}
use Rattle.plant_conf.specs.ConfView.{ConfView, conf_values}
use Rattle.plant_conf.specs.Meaning.{Means}
use Rattle.plant_conf.specs.declared.fault.ConfFault.{ConfFault}
use Rattle.plant_conf.specs.declared.fault.ConfFault.TheVariants as conf_fault
use Rattle.plant_setup.specs.ConfigLine.{config_line}
use Rattle.plant_setup.specs.Names.{name_place}
use Rattle.plant_setup.specs.Setup.{IsChosen, net_of, setup_fault}
use Rattle.plant_setup.specs.declared.fault.SetupFault.{SetupFault}
use Rattle.plant_setup.specs.declared.fault.SetupFault.TheVariants as setup
use Rattle.multi_master.specs.Calls.{AppView}
use Rattle.black_channel.specs.Told.{ChannelTold}
use Rattle.plant_model.specs.declared.journal.JournalStep.{JournalStep}
use Rattle.plant_model.specs.Acts.{Act, begins_with}
use Rattle.plant_model.specs.NetCycles.{AnswersByNet, net_app}
use Rattle.plant_model.specs.Past.{Named}
use Rattle.plant_run.specs.Reporting.{Terms}
use Rattle.plant_file.specs.Handed.{DeskTold, Handed}

-- what a run of a plant promises, by its terms, how it ended, what was read and written, what its channel told before
-- and after it, and its journal
abbrev pub PlantRun : Type 1
PlantRun = Terms → Ended → Outside → ChannelTold → ChannelTold → List JournalStep → Type 0

-- the source and all channels are as they were, and the journal is empty
pub record BeganNothing {C S : Type 0} (h : Handed C S) : Type 0 where
  pub unread : h.source_after ≡ h.source_before
  pub channels : h.channels_after ≡ h.channels_before
  pub journal : h.journal ≡ []

-- no plant ran: this line was written with this status, or a first part of it where a write failed
pub record WroteLine {C S : Type 0} (line : List ℕ) (why : Status) (ended : Ended) (o : Outside) (h : Handed C S) : Type 0 where
  pub nothing : BeganNothing h
  pub wrote : Writes 0 line (record { status = why; place = 0 }) ended o.sink
  pub later : o.sink.faults_before ≤ o.sink.faults_after

-- no plant ran, for want of memory: nothing was written
pub record NoMemoryForPlant {C S : Type 0} (ended : Ended) (o : Outside) (h : Handed C S) : Type 0 where
  pub nothing : BeganNothing h
  pub ended_is : ended ≡ record { status = status.Memory; place = 0 }
  pub written : o.sink.after ≡ o.sink.before
  pub faults : o.sink.faults_after ≡ o.sink.faults_before

-- a plant with this configuration ran over its script: first with the net, or the first application of the name that
-- the configuration has, and over the first channel of the name that it has. The other applications were left to the
-- script, and the other channels alone. While the net runs, it answers by looking back over its cycles
pub record RanSetUp {C S : Type 0} (Ran : PlantRun) (conf : ConfView) (ended : Ended) (o : Outside) (h : Handed C S) : Type 0 where
  pub app : AppView
  pub spare : List Named
  pub chosen : IsChosen (λ named. named.name) conf.app h.apps spare (app ≡ net_app (net_of conf)) (λ named. app ≡ named.app)
  pub place : ℕ
  pub place_is : name_place conf.channel (map h.name_of h.channels_before) ≡ Some place
  pub before : C
  pub before_is : slice_get h.channels_before place ≡ Some before
  pub after : C
  pub channels : h.channels_after ≡ slice_set h.channels_before place after
  pub ran : Ran (record { begins = begins_with conf app; spare = spare; bounds = conf.bounds }) ended o (h.tells before) (h.tells after) h.journal
  pub by_net : (act : Act) (acts : List Act) → AnswersByNet (net_of conf) (begins_with conf app) act acts

-- what comes of a configuration that has this first fault, or none
abbrev pub RanUnless : {C S : Type 0} → PlantRun → Option SetupFault → ConfView → Ended → Outside → Handed C S → Type 0
RanUnless Ran (Some why) conf ended o h = WroteLine (config_line why) status.Config ended o h
RanUnless Ran None conf ended o h = RanSetUp Ran conf ended o h

-- a text says this configuration, or has this first fault; of want of memory nothing is said
abbrev pub Says : List ℕ → Result ConfView ConfFault → Type 0
Says text (Ok conf) = Means text (Ok (conf_values conf))
Says text (Err why) = why ≢ conf_fault.Memory → Means text (Err why)

-- what comes of that
abbrev pub RanSaid : {C S : Type 0} → PlantRun → Result ConfView ConfFault → Ended → Outside → Handed C S → Type 0
RanSaid Ran (Ok conf) ended o h = RanUnless Ran (setup_fault conf (map (λ named. named.name) h.apps) (map h.name_of h.channels_before)) conf ended o h
RanSaid Ran (Err conf_fault.Memory) ended o h = NoMemoryForPlant ended o h
RanSaid Ran (Err why) ended o h = WroteLine (config_line (setup.Conf why)) status.Config ended o h

-- what comes of a text
abbrev pub RanText : {C S : Type 0} → PlantRun → List ℕ → Ended → Outside → Handed C S → Type 0
RanText Ran text ended o h = (said : Result ConfView ConfFault) × Says text said × RanSaid Ran said ended o h

-- the most bytes of a configuration
abbrev pub max_config : ℕ
max_config = 262144

-- no load of this name failed
abbrev pub NoneFailed : DeskTold → Type 0
NoneFailed desk = desk.faults_after ≡ desk.faults_before

-- what may be answered to a load of a configuration: where the desk tells it, the text under the name; that it is too
-- long, only where it is; and a failure, only where the desk's count of failed loads of this name rose
abbrev pub MayAnswer : DeskTold → Result (List ℕ) LoadFault → Type 0
MayAnswer desk (Ok text) = IfSome desk.text (λ held. text ≡ held) × (length text ≤ max_config) × NoneFailed desk
MayAnswer desk (Err load.Failed) = Rose desk.faults_before desk.faults_after
MayAnswer desk (Err load.TooLong) = IfSome desk.text (λ held. max_config < length held) × NoneFailed desk
MayAnswer desk (Err load.Memory) = NoneFailed desk

-- what comes of an answer
abbrev pub RanAnswer : {C S : Type 0} → PlantRun → Result (List ℕ) LoadFault → Ended → Outside → Handed C S → Type 0
RanAnswer Ran (Ok text) ended o h = RanText Ran text ended o h
RanAnswer Ran (Err load.Failed) ended o h = WroteLine (codes "desk failed\n") status.Desk ended o h
RanAnswer Ran (Err load.TooLong) ended o h = WroteLine (config_line setup.TooLong) status.Config ended o h
RanAnswer Ran (Err load.Memory) ended o h = NoMemoryForPlant ended o h

-- a plant was to be run by the configuration that a desk has, and this came of it
pub record RanFile {C S : Type 0} (Ran : PlantRun) (ended : Ended) (o : Outside) (desk : DeskTold) (h : Handed C S) : Type 0 where
  pub answer : Result (List ℕ) LoadFault
  pub may : MayAnswer desk answer
  pub ran : RanAnswer Ran answer ended o h
  pub later : desk.faults_before ≤ desk.faults_after
