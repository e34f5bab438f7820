-- What it means that a plant does what its acts say. Acts are listed newest first.
use Rattle.std.specs.Prelude.{◌≡◌, ◌≤◌, ◌*◌, ℕ, zero, suc, Bool, List, [], ◌∷◌, All, IsSomeAnd, Option, None, length, map, slice_get, false, IfSome, IsSome}
use Rattle.fsoe_base.specs.declared.did.Did.{Did}
use Rattle.fsoe_base.specs.declared.lengths.Lengths.{Lengths}
use Rattle.black_channel.specs.Told.{ChannelTold}
use Rattle.black_channel.specs.declared.channel.Parcel.{Parcel}
use Rattle.param_load.specs.declared.entry.Entry.{Entry}
use Rattle.plant_conf.specs.declared.conf.LinkConf.{LinkConf}
use Rattle.failsafe_io.specs.declared.bit.Bit.{Bit}
use Rattle.exchange_model.specs.Monitor.{view_of}
use Rattle.multi_master.specs.Calls.{AppView, Rule}
use Rattle.multi_master.specs.Standing.{MultiValue, MultiView, StandsFor}
use Rattle.multi_master.specs.Standing as multi
use Rattle.plant_model.specs.declared.journal.JournalStep.{JournalStep}
use Rattle.plant_model.specs.Acts.{Beginning, Said, Act, Start, settings, calls, journal, is_cut, uses, uses_after}
use Rattle.plant_model.specs.Past.{MayHaveDone, with_line}
use Rattle.plant_core.specs.Link.{Fixed, LinkView, LinkStands, fixed_of}
use Rattle.plant_model.specs.Pair.{pair, link_at, lowest_other, end_outputs, pairs_by}
use Rattle.plant_model.specs.Uses.{Trace}
use Rattle.std.specs.Option.{option_map_or}
use Rattle.fsoe_base.specs.Image.{bit_of}
use Rattle.fsoe_base.specs.declared.command.End.{End}
use Rattle.fsoe_base.specs.declared.command.End.TheVariants as side
use Rattle.plant_conf.specs.declared.conf.BoundSpec.{BoundSpec}
use Rattle.plant_model.specs.Bound.{is_still}
use Rattle.plant_model.specs.BoundLines.{worst_at}

-- what contracts see of a plant: its master of many connections, what it keeps of each connection beside its master,
-- and its journal
pub record PlantView : Type 0 where
  pub master : MultiView
  pub links : List LinkView
  pub journal : List JournalStep

-- what a plant is, with an application of any type
pub record PlantValue (A : Type 0) : Type 0 where
  pub master : MultiValue A
  pub links : List LinkView
  pub journal : List JournalStep

-- what contracts see, by the rule, what is held and the guards of an application of this type
abbrev pub seen : {A : Type 0} → (A → Rule) → (A → List ℕ) → (A → Bit → Bit → Bool) → PlantValue A → PlantView
seen rule holds guards v = record { master = multi.seen rule holds guards v.master; links = v.links; journal = v.journal }

-- so many entries were noted at most with each connection
abbrev pub AreNoted : ℕ → List LinkView → Type 0
AreNoted most vs = All (λ v. v.monitor.noted ≤ most) vs

-- there is something kept of each connection, of which there are at most 64, with places where the masters write what
-- they did and sent; and at most two entries were noted with each for each step of the journal, which has this length
pub record IsPlant {A : Type 0} (master : MultiValue A) (links : List LinkView) (dids : List Did) (outs : List (List ℕ)) (len : ℕ) : Type 0 where
  pub count : length links ≡ multi.links master
  pub most : length links ≤ 64
  pub dids_fit : length dids ≡ length links
  pub outs_fit : length outs ≡ length links
  pub noted : AreNoted (2 * len) links

-- there is a connection with this number
abbrev pub HasLink : {A : Type 0} → PlantValue A → ℕ → Type 0
HasLink v link = multi.IsNumber (length v.links) link

-- the lengths of the connections of which this is kept
abbrev pub lengths_kept : List LinkView → List Lengths
lengths_kept vs = map (λ v. v.slave.kit.settings.lengths) vs

-- what never changes of each of them
abbrev pub fixed_in : List LinkView → List Fixed
fixed_in vs = map fixed_of vs

-- what is kept of the connection with this number, if there is one
abbrev pub kept_at : List LinkView → ℕ → Option LinkView
kept_at vs zero = None
kept_at vs (suc place) = slice_get vs place

-- that holds of each connection, the first of which has number k, and of what is kept of it beside its master
abbrev pub EachLink : (ℕ → LinkConf → LinkView → Type 0) → ℕ → List LinkConf → List LinkView → Type 0
EachLink P k [] [] = Unit {0}
EachLink P k (link ∷ links) (v ∷ vs) = P k link v × EachLink P (suc k) links vs
EachLink P k _ _ = ⊥

-- what is kept of connection k, whose pair did this and which may be cut: it stands for the entries, and tells whether
-- the connection is cut
pub record LinkIs (cuts : ℕ → Bool) (done : ℕ → LinkConf → List Entry) (k : ℕ) (link : LinkConf) (v : LinkView) : Type 0 where
  pub stands : LinkStands link v (done k link)
  pub cut : v.cut ≡ cuts k

-- so it is of each of these connections, from number 1 on
abbrev pub LinksAre : List LinkConf → (ℕ → Bool) → (ℕ → LinkConf → List Entry) → List LinkView → Type 0
LinksAre links cut done vs = EachLink (LinkIs cut done) 1 links vs

-- a plant that began so has done these acts: its master stands for their calls, what it keeps of each connection for
-- its pair in the journal, and the journal is that of the acts
pub record HasDone (b : Beginning) (v : PlantView) (done : List Act) : Type 0 where
  pub master : StandsFor (settings b) b.app v.master (calls b done)
  pub links : LinksAre b.links (λ k. is_cut k done) (pairs_by v.journal) v.links
  pub journal_is : v.journal ≡ journal b done

-- a plant with this application hasn't begun: it has no connection, and did nothing
pub record HasDoneNothing (app : AppView) (v : PlantView) : Type 0 where
  pub done : (seed : ℕ) → HasDone (record { links = []; app = app; seed = seed }) v []

-- a plant that began so has done these acts, and comes to the next line of its script
pub record PlantStands (b : Beginning) (v : PlantView) (acts : List Act) : Type 0 where
  pub may : MayHaveDone b.links acts
  pub has_done : HasDone b v acts

-- a plant that began so has done its start alone, and so its channel was used
pub record Starts (b : Beginning) (new : PlantView) (before after : ChannelTold) : Type 0 where
  pub stands : PlantStands b new (Start ∷ [])
  pub channel : Trace (uses b (Start ∷ [])) before after

-- a plant goes on by the acts of one line, which says this, and its channel is used by them; the pulls gave `gifts`. A
-- plant that came to this line comes to the next
pub record Plays (b : Beginning) (acts : List Act) (said : Said) (new : PlantView) (before after : ChannelTold) : Type 0 where
  pub gifts : List (Option Parcel)
  pub has_done : HasDone b new (with_line said gifts acts)
  pub may : MayHaveDone b.links acts → MayHaveDone b.links (with_line said gifts acts)
  pub channel : Trace (uses_after b (with_line said gifts []) acts) before after

-- a plant that has done some acts, or none, goes on by a line that says this
pub record Follows (old : PlantView) (said : Said) (new : PlantView) (before after : ChannelTold) : Type 0 where
  pub plays : (b : Beginning) (acts : List Act) → HasDone b old acts → Plays b acts said new before after

-- what is shown of a connection is this word of it and of the entries of its pair
pub record ShowsPair {X : Type 0} (v : PlantView) (k : ℕ) (shown : X) (word : LinkConf → List Entry → X) : Type 0 where
  pub shows : (b : Beginning) (acts : List Act) → PlantStands b v acts
      → IsSomeAnd (link_at b.links k) (λ link. shown ≡ word link (pair link k v.journal))

-- the monitors of these connections have noted the entries of their pairs
abbrev pub AllNoted : List LinkConf → List LinkView → List JournalStep → Type 0
AllNoted links vs steps = EachLink (λ k link v. v.monitor ≡ view_of (pair link k steps)) 1 links vs

-- the lowest connection whose pair has an other entry is told
pub record TellsOther (v : PlantView) (told : Option ℕ) : Type 0 where
  pub tells : (b : Beginning) (acts : List Act) → PlantStands b v acts → told ≡ lowest_other 1 b.links v.journal

-- it is told whether a bound is still
pub record TellsStill (v : PlantView) (bound : BoundSpec) (told : Bool) : Type 0 where
  pub tells : (b : Beginning) (acts : List Act) → PlantStands b v acts → told ≡ is_still b bound acts

-- the ages of the outputs of connection k are told, if there is one
abbrev pub IsAged : List LinkView → ℕ → Type 0
IsAged vs k = IfSome (kept_at vs k) (λ v. IsSome v.ages)

-- what is shown of an end at connection k is the greatest age of its outputs
pub record ShowsWorst (v : PlantView) (k : ℕ) (end : End) (shown : Option ℕ) : Type 0 where
  pub shows : (b : Beginning) (acts : List Act) → PlantStands b v acts → shown ≡ worst_at b.links v.journal k end

-- what is shown of a bit of an image is its value at the slave
pub record ShowsOn (v : PlantView) (bit : Bit) (shown : Bool) : Type 0 where
  pub shows : (b : Beginning) (acts : List Act) → PlantStands b v acts
      → shown ≡ option_map_or (λ link. bit_of (end_outputs link side.Slave (pair link bit.link v.journal)) bit.bit) (link_at b.links bit.link) false
