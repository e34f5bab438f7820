-- What a plant did, act by act, and what that means: the calls of its master of many connections, the steps of its
-- journal, and the uses of its channel. Acts and calls are listed newest first, steps and uses oldest first. The steps
-- of an act and its uses are two lists: nothing says whether a step or a use comes first.
use Rattle.std.specs.Prelude.{ℕ, suc, ◌-◌, ◌==◌, Bool, false, List, [], ◌∷◌, ◌++◌, length, map, take, reverse, Option, Some, None, option_to_list, option_and_then, if◌then◌else◌}
use Rattle.fsoe_base.specs.declared.command.End.{End}
use Rattle.fsoe_base.specs.declared.command.End.TheVariants as side
use Rattle.failsafe_io.specs.Application.{Answer}
use Rattle.black_channel.specs.declared.channel.Parcel.{Parcel}
use Rattle.param_load.specs.declared.master_settings.MasterSettings.{MasterSettings}
use Rattle.plant_conf.specs.ConfView.{ConfView}
use Rattle.plant_conf.specs.declared.conf.LinkConf.{LinkConf}
use Rattle.exchange_model.specs.Ends.{peer}
use Rattle.exchange_model.specs.World.{frames_of}
use Rattle.multi_master.specs.Calls.{AppView, Call, Deliver, Tick, Nonce, ChangeApp, Meant, cycle_in, meant, changed_by}
use Rattle.plant_model.specs.declared.event.PlantEvent.{PlantEvent}
use Rattle.plant_model.specs.declared.event.PlantEvent.TheVariants as plant_event
use Rattle.plant_model.specs.declared.journal.JournalStep.{JournalStep}
use Rattle.plant_model.specs.declared.journal.JournalStep.TheVariants as journal_step
use Rattle.plant_model.specs.Pair.{pair, link_at}
use Rattle.plant_model.specs.Uses.{Use, Begin, Push, Pull}

-- what a plant begins with: its connections, the application that runs first, and the seed of its channel
pub record Beginning : Type 0 where
  pub links : List LinkConf
  pub app : AppView
  pub seed : ℕ

-- so with this configuration and this application
abbrev pub begins_with : ConfView → AppView → Beginning
begins_with conf app = record { links = conf.links; app = app; seed = conf.seed }

-- what a line of the script has happen: an event, or another application runs from now on
pub data Said : Type 0 where
  Event : PlantEvent → Said
  App : AppView → Said

-- an act: the plant starts; a line of the script happens; the channel is pulled from, and gives a parcel or nothing
pub data Act : Type 0 where
  Start : Act
  Happen : Said → Act
  PullFrom : Option Parcel → Act

-- the call of the master that an event of the script makes, if it makes one
abbrev pub event_call : PlantEvent → Option Call
event_call plant_event.Tick = Some Tick
event_call (plant_event.Nonce link side.Master id) = Some (Nonce link id)
event_call _ = None

-- the call that a parcel makes: a delivery, where it goes to the master of a connection that exists
abbrev pub delivery_call : Option LinkConf → End → ℕ → List ℕ → Option Call
delivery_call (Some conf) side.Master link frame = Some (Deliver link frame)
delivery_call _ _ link frame = None

-- the call that an act makes, if it makes one: the start of a plant is the change to its first application
abbrev pub call_of : Beginning → Act → Option Call
call_of b Start = Some (ChangeApp b.app)
call_of b (Happen (Event event)) = event_call event
call_of b (Happen (App app)) = Some (ChangeApp app)
call_of b (PullFrom None) = None
call_of b (PullFrom (Some parcel)) = delivery_call (link_at b.links parcel.to.link) parcel.to.end parcel.to.link parcel.frame

-- the calls of the master that these acts made
abbrev pub calls : Beginning → List Act → List Call
calls b [] = []
calls b (act ∷ acts) = option_to_list (call_of b act) ++ calls b acts

-- what the masters are set to
abbrev pub settings : Beginning → List MasterSettings
settings b = map (λ link. link.master) b.links

-- what the calls of these acts mean: the connections of the master, and the application that runs. Before the start it
-- is `b.app`, to which the start changes
abbrev pub masters : Beginning → List Act → Meant
masters b acts = meant (settings b) b.app (calls b acts)

-- the cycle that an act ran after those before, if it ran one: what the application answered
abbrev pub act_cycle : Beginning → Act → List Act → Option Answer
act_cycle b act acts = option_and_then (λ call. cycle_in call (masters b acts)) (call_of b act)

-- an offer as a step, with the number of its connection
abbrev pub offer_step : ℕ × List ℕ → JournalStep
offer_step x = journal_step.Offer x.0 x.1

-- the offers that an act changed: one for each connection of which its cycle answered another offer, in their order
abbrev pub offers : Beginning → Act → List Act → List JournalStep
offers b act acts = map offer_step (changed_by (act_cycle b act acts) (masters b acts).connections)

-- the step of what a line of the script says
abbrev pub line_step : Said → JournalStep
line_step (Event event) = journal_step.Script event
line_step (App app) = journal_step.App

-- the steps of an act: its offers stand after a line of the script, and before a parcel that was pulled. What gave no
-- parcel is no step
abbrev pub steps_of : Act → List JournalStep → List JournalStep
steps_of Start changed = changed
steps_of (Happen said) changed = line_step said ∷ changed
steps_of (PullFrom None) changed = changed
steps_of (PullFrom (Some parcel)) changed = changed ++ journal_step.Pulled parcel ∷ []

-- the journal of these acts
abbrev pub journal : Beginning → List Act → List JournalStep
journal b [] = []
journal b (act ∷ acts) = journal b acts ++ steps_of act (offers b act acts)

-- whether a connection is cut after an event, where it was so before
abbrev pub cut_after : ℕ → PlantEvent → Bool → Bool
cut_after k (plant_event.Cut link cut) before = if link == k then cut else before
cut_after k _ before = before

-- whether connection k is cut after these acts: the newest event that cuts it or doesn't tells
abbrev pub is_cut : ℕ → List Act → Bool
is_cut k [] = false
is_cut k (Happen (Event event) ∷ acts) = cut_after k event (is_cut k acts)
is_cut k (_ ∷ acts) = is_cut k acts

-- of the frames sent by now those that weren't sent before, the first of which comes first; both lists are newest first
abbrev pub newer : List (List ℕ) → List (List ℕ) → List (List ℕ)
newer before now = reverse (take (length now - length before) now)

-- a push of a frame that goes to an end of a connection
abbrev pub push_to : ℕ → End → List ℕ → Use
push_to k end frame = Push (record { to = record { link = k; end = end }; frame = frame })

-- the frames that one end of each connection, from number k on, sent between two journals are pushed, for its peer,
-- unless the connection is cut
abbrev pub pushes_of : End → ℕ → List LinkConf → (ℕ → Bool) → List JournalStep → List JournalStep → List Use
pushes_of end k [] cut before now = []
pushes_of end k (link ∷ links) cut before now =
    (if cut k then [] else map (push_to k (peer end)) (newer (frames_of end (pair link k before)) (frames_of end (pair link k now))))
    ++ pushes_of end (suc k) links cut before now

-- the frames that all ends sent between two journals are pushed: those of the slaves first, and then those of the
-- masters
abbrev pub all_pushes : List LinkConf → (ℕ → Bool) → List JournalStep → List JournalStep → List Use
all_pushes links cut before now = pushes_of side.Slave 1 links cut before now ++ pushes_of side.Master 1 links cut before now

-- what an act does with the channel, with these pushes
abbrev pub uses_of : ℕ → Act → List Use → List Use
uses_of seed Start pushes = Begin seed ∷ pushes
uses_of seed (Happen said) pushes = pushes
uses_of seed (PullFrom gift) pushes = Pull gift ∷ pushes

-- the uses of the channel by these further acts, after those; oldest first
abbrev pub uses_after : Beginning → List Act → List Act → List Use
uses_after b [] acts = []
uses_after b (act ∷ more) acts =
    let before = more ++ acts in
    uses_after b more acts
    ++ uses_of b.seed act (all_pushes b.links (λ k. is_cut k (act ∷ before)) (journal b before) (journal b (act ∷ before)))

-- the uses of the channel by these acts
abbrev pub uses : Beginning → List Act → List Use
uses b acts = uses_after b acts []
