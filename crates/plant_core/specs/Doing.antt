-- What each part of a plant does of an act; `plant_model/Past` and `Acts` have their order. Contracts of private
-- functions alone rest on these words. Entries and acts are listed newest first, steps oldest first.
use Rattle.std.specs.Prelude.{◌≡◌, ◌+◌, ◌*◌, ℕ, suc, Bool, true, List, [], ◌∷◌, ◌++◌, map, slice_get, Option, Some, None, Vec, vec_len}
use Rattle.fsoe_base.specs.declared.command.End.{End}
use Rattle.fsoe_base.specs.declared.command.End.TheVariants as side
use Rattle.fsoe_base.specs.declared.did.Did.{Did}
use Rattle.black_channel.specs.Told.{ChannelTold, PullsParcel}
use Rattle.failsafe_io.specs.declared.bit.Bit.{Bit}
use Rattle.param_load.specs.declared.entry.Entry.{Entry}
use Rattle.param_load.specs.declared.entry.Move.{Move}
use Rattle.param_load.specs.declared.entry.Move.TheVariants as move
use Rattle.plant_conf.specs.declared.conf.LinkConf.{LinkConf}
use Rattle.multi_master.specs.Calls.{AppView, Rule, Call}
use Rattle.multi_master.specs.Standing.{MultiView, StandsFor, changed}
use Rattle.multi_master.specs.Standing as multi
use Rattle.param_load.specs.declared.master_settings.MasterSettings.{MasterSettings}
use Rattle.plant_model.specs.declared.event.PlantEvent.{PlantEvent}
use Rattle.plant_model.specs.declared.event.PlantEvent.TheVariants as plant_event
use Rattle.plant_model.specs.declared.journal.JournalStep.{JournalStep}
use Rattle.plant_model.specs.Acts.{Beginning, Said, Act, PullFrom, offer_step, uses_after}
use Rattle.plant_core.specs.Link.{IsNoted, LinkStands, LinkView, NotesOne}
use Rattle.plant_core.specs.Standing.{Follows, IsPlant, PlantView, HasDone, LinksAre, fixed_in}
use Rattle.plant_core.specs.declared.ends.Ends.{Ends}
use Rattle.plant_model.specs.Pair.{pairs_by, next_of}
use Rattle.plant_model.specs.Past.{IsPast}
use Rattle.plant_model.specs.Uses.{Trace}
use Rattle.plant_model.specs.Gifts.{place_of, sent_uses}
use Rattle.black_channel.specs.declared.channel.Parcel.{Parcel}

-- connection k, kept so before, has this entry more after these, and its frame was pushed to this end
pub record Acted (k : ℕ) (to : End) (link : LinkConf) (x : Entry) (w : List Entry) (old new : LinkView) (before after : ChannelTold) : Type 0 where
  pub stands : LinkStands link new (x ∷ w)
  pub channel : Trace (sent_uses (place_of k to) x.sent old.cut) before after

-- the slave of connection k did its next deed at this event
pub record SlaveActs (k : ℕ) (what : Move) (old new : LinkView) (before after : ChannelTold) : Type 0 where
  pub acts : (link : LinkConf) (w : List Entry) → LinkStands link old w → Acted k side.Master link (next_of side.Slave what link w) w old new before after
  pub notes : NotesOne old new

-- what the connection at a place may do, by what is kept of it and what its channel tells, before and after
abbrev pub Change : Type 1
Change = ℕ → LinkView → LinkView → ChannelTold → ChannelTold → Type 0

-- the slave at a place ticked
abbrev pub SlaveTicks : Change
SlaveTicks place old new before after = SlaveActs (suc place) move.Tick old new before after

-- what the master at a place did in a tick was noted, and its frame pushed: both are told there
pub record MasterTicked (dids : List Did) (frames : List (List ℕ)) (place : ℕ) (old new : LinkView) (before after : ChannelTold) : Type 0 where
  pub did : Did
  pub sent : List ℕ
  pub did_at : slice_get dids place ≡ Some did
  pub sent_at : slice_get frames place ≡ Some sent
  pub noted : IsNoted side.Master true [] did sent None old new
  pub pushed : Trace (sent_uses (place_of (suc place) side.Slave) sent old.cut) before after

-- each of these connections acted so, one after the other, the first of which stands at this place
abbrev pub EachActs : Change → ℕ → List LinkView → List LinkView → ChannelTold → ChannelTold → Type 0
EachActs Acts place [] [] before after = before ≡ after
EachActs Acts place (v ∷ old) (w ∷ new) before after = (between : ChannelTold) × Acts place v w before between × EachActs Acts (suc place) old new between after
EachActs Acts place _ _ before after = ⊥

-- the offers that the last call of the master changed are noted in the journal, and with each connection
pub record OffersNoted (master : MultiView) (old new : List LinkView) (before after : List JournalStep) : Type 0 where
  pub offers : List JournalStep
  pub fixed : fixed_in new ≡ fixed_in old
  pub steps : after ≡ before ++ offers
  pub offers_are : (settings : List MasterSettings) (app : AppView) (calls : List Call) → StandsFor settings app master calls → offers ≡ map offer_step (changed settings app calls)
  pub links : (links : List LinkConf) (cut : ℕ → Bool) (steps : List JournalStep) → LinksAre links cut (pairs_by steps) old → LinksAre links cut (pairs_by (steps ++ offers)) new

-- these ends are those of a plant, with this journal
abbrev pub IsReady : {A B : Type 0} → Ends A → Vec JournalStep B → Type 0
IsReady ends steps = IsPlant ends.master ends.links.items ends.dids.items ends.outs.items (vec_len steps)

-- what contracts see of such a plant
abbrev pub sees : {A B : Type 0} → (A → Rule) → (A → List ℕ) → (A → Bit → Bit → Bool) → Ends A → Vec JournalStep B → PlantView
sees rule holds guards ends steps = record { master = multi.seen rule holds guards ends.master; links = ends.links.items; journal = steps.items }

-- what an event of the script has happen to the slave of a connection, with the number of this, if it does
abbrev pub slave_move : PlantEvent → Option (ℕ × Move)
slave_move (plant_event.Put link load) = Some (link, move.Put load)
slave_move (plant_event.Hold link failsafe) = Some (link, move.Hold failsafe)
slave_move (plant_event.Local link) = Some (link, move.Local)
slave_move (plant_event.Nonce link side.Slave id) = Some (link, move.Nonce id)
slave_move _ = None

-- the most steps that an event may note, where there are so many connections: at a tick its own and those of the offers
-- of its cycle, and as many again for each of 64 parcels
abbrev pub room_for : PlantEvent → ℕ → ℕ
room_for plant_event.Tick links = 65 * (links + 1)
room_for _ links = 1

-- a plant that had done some acts has done these too, and its channel was used so
pub record Done (b : Beginning) (done more : List Act) (new : PlantView) (before after : ChannelTold) : Type 0 where
  pub has_done : HasDone b new (more ++ done)
  pub channel : Trace (uses_after b more done) before after

-- so a plant goes on by these acts
pub record GoesOn (old : PlantView) (more : List Act) (new : PlantView) (before after : ChannelTold) : Type 0 where
  pub fixed : fixed_in new.links ≡ fixed_in old.links
  pub goes : (b : Beginning) (done : List Act) → HasDone b old done → Done b done more new before after

-- so it does with a parcel that was pulled just before
pub record Delivers (old : PlantView) (parcel : Parcel) (new : PlantView) (before after : ChannelTold) : Type 0 where
  pub delivers : (first : ChannelTold) → PullsParcel (Some parcel) first before → GoesOn old (PullFrom (Some parcel) ∷ []) new first after

-- pulls of a tick, after which so many more may come
pub record Pulls (left : ℕ) (old new : PlantView) (before after : ChannelTold) : Type 0 where
  pub gifts : List (Option Parcel)
  pub past : (done : List Act) → IsPast 64 done → IsPast left (map PullFrom gifts ++ done)
  pub goes : GoesOn old (map PullFrom gifts) new before after

-- a plant goes on by a line of the script, which says this
pub record DoesLine (old : PlantView) (said : Said) (new : PlantView) (before after : ChannelTold) : Type 0 where
  pub fixed : fixed_in new.links ≡ fixed_in old.links
  pub follows : Follows old said new before after
