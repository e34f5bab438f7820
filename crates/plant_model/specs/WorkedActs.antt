-- Acts of the worked plant: its journal, and what happened to the channel. Acts are listed newest first, steps and uses
-- oldest first.
use Rattle.std.specs.Prelude.{◌≡◌, ℕ, true, false, List, [], ◌∷◌, ◌++◌, codes, map, reverse, take, Some, None}
use Rattle.fsoe_base.specs.declared.command.End.{End}
use Rattle.fsoe_base.specs.declared.command.End.TheVariants as side
use Rattle.black_channel.specs.Holds.{Ring}
use Rattle.black_channel.specs.declared.channel.Parcel.{Parcel}
use Rattle.multi_master.specs.Calls.{AppView}
use Rattle.plant_model.specs.declared.event.PlantEvent.TheVariants as plant_event
use Rattle.plant_model.specs.declared.journal.JournalStep.TheVariants as journal_step
use Rattle.plant_model.specs.Acts.{Beginning, Event, Act, Start, Happen, PullFrom, journal, uses}
use Rattle.plant_model.specs.Past.{IsPast}
use Rattle.plant_model.specs.Uses.{Use, Begin, Push, Pull}
use Rattle.plant_model.specs.Gifts.{GivesHeld}
use Rattle.plant_model.specs.WorkedPlant.{both_links, offer, parcel_for, tick}

-- an application that answers 0100 to the second connection at each cycle, and zeros to the first
abbrev pub driving : AppView
driving = record {
  rule = λ held ticked inputs lens. record { outputs = (0 ∷ 0 ∷ []) ∷ (1 ∷ 0 ∷ []) ∷ []; holds = held };
  holds = [];
  guards = λ out inp. false;
}

-- the worked plant with it
abbrev pub driving_plant : Beginning
driving_plant = record { links = both_links; app = driving; seed = 1 }

-- parcels with the same frame for both slaves, or for both masters
abbrev pub for_both : End → List ℕ → List Parcel
for_both end text = parcel_for end 1 text ∷ parcel_for end 2 text ∷ []

-- the parcels of the first pulls
abbrev pub first_parcels : List Parcel
first_parcels = for_both side.Slave (codes "2a0000c42d0000") ++ for_both side.Master (codes "2a0000c42d0000") ++ for_both side.Slave (codes "4e0100123e0000")

-- a start, a tick, and these pulls
abbrev pub first_acts : List Act
first_acts = reverse (Start ∷ Happen (Event plant_event.Tick) ∷ map (λ parcel. PullFrom (Some parcel)) first_parcels)

-- each of these parcels is pulled, and its answer pushed
abbrev pub answered : List Parcel → List Parcel → List Use
answered (parcel ∷ parcels) (answer ∷ answers) = Pull (Some parcel) ∷ Push answer ∷ answered parcels answers
answered _ _ = []

-- the journal begins with the one offer that the first cycle changed; nothing is changed after it. The channel begins
-- with the seed; both masters' first frames are pushed; each parcel is answered. A channel that keeps order gives just
-- these parcels, and 58 more may be pulled in this tick
unfoldable pub FirstActs : Type 0
FirstActs =
    (journal driving_plant first_acts ≡ offer 2 (codes "0100") ∷ tick ∷ map journal_step.Pulled first_parcels)
    × (uses driving_plant first_acts
    ≡ Begin 1
    ∷ map Push (for_both side.Slave (codes "2a0000c42d0000"))
    ++ answered first_parcels (for_both side.Master (codes "2a0000c42d0000") ++ for_both side.Slave (codes "4e0100123e0000") ++ for_both side.Master (codes "4e020090470000")))
    × GivesHeld (uses driving_plant first_acts) (Ring [])
    × IsPast 58 first_acts

-- the acts where the channel gives nothing in the first tick, and the first connection is cut after it: what its ends
-- send isn't pushed, and what was under way still comes
abbrev pub cut_acts : List Act
cut_acts =
    reverse
    (Start
    ∷ Happen (Event plant_event.Tick)
    ∷ PullFrom None
    ∷ Happen (Event (plant_event.Cut 1 true))
    ∷ Happen (Event plant_event.Tick)
    ∷ map (λ parcel. PullFrom (Some parcel)) (take 2 first_parcels))

-- the uses then, and how many more parcels may be pulled
unfoldable pub CutActs : Type 0
CutActs =
    (uses driving_plant cut_acts
    ≡ Begin 1
    ∷ map Push (for_both side.Slave (codes "2a0000c42d0000"))
    ++ Pull None
    ∷ map (λ parcel. Pull (Some parcel)) (take 2 first_parcels)
    ++ Push (parcel_for side.Master 2 (codes "2a0000c42d0000"))
    ∷ [])
    × IsPast 62 cut_acts
