-- What laws say of the uses of a channel: what was pushed to it, and what it gave. Uses are listed oldest first.
use Rattle.black_channel.specs.Holds.{Holds, pulled, pushed, after_begin}
use Rattle.black_channel.specs.Told.{ChannelTold}
use Rattle.black_channel.specs.declared.channel.Parcel.{Parcel}
use Rattle.black_channel.specs.declared.channel.Place.{Place}
use Rattle.std.specs.List.{count_by, flat_map}
use Rattle.std.specs.Prelude.{is_none, option_to_list, ◌+◌, suc, [], Some, List, ◌^◌, IfSome, ◌++◌, Option, ◌-◌, ◌≡◌, ◌∷◌, Bool, if◌then◌else◌, ◌<◌, option_map, ℕ, ◌≤◌}
use Rattle.plant_conf.specs.declared.conf.LinkConf.{LinkConf}
use Rattle.fsoe_base.specs.declared.command.End.{End}
use Rattle.end_model.specs.Deed.{is_empty}
use Rattle.plant_model.specs.Uses.{Pull, Use, Push, Begin}

-- an end of a connection
abbrev pub place_of : ℕ → End → Place
place_of k end = record { link = k; end = end }

-- a frame that goes to this place is pushed, if there is one and its connection isn't cut
abbrev pub sent_uses : Place → List ℕ → Bool → List Use
sent_uses to frame cut = if is_empty frame then [] else if cut then [] else Push (record { to = to; frame = frame }) ∷ []

-- the uses of connection after connection, the first of which has number k
abbrev pub each_uses : (ℕ → LinkConf → List Use) → ℕ → List LinkConf → List Use
each_uses uses k [] = []
each_uses uses k (link ∷ links) = uses k link ++ each_uses uses (suc k) links

-- the parcels that were pushed
abbrev pub pushes : List Use → List Parcel
pushes [] = []
pushes (Push parcel ∷ uses) = parcel ∷ pushes uses
pushes (_ ∷ uses) = pushes uses

-- what a use gives, where it is a pull
abbrev pub pull_of : Use → List (Option Parcel)
pull_of (Pull gift) = gift ∷ []
pull_of _ = []

-- what the pulls gave, a parcel or nothing
abbrev pub pulls : List Use → List (Option Parcel)
pulls uses = flat_map pull_of uses

-- the parcels that were given
abbrev pub gifts : List Use → List Parcel
gifts uses = flat_map option_to_list (pulls uses)

-- the number of pulls that gave nothing
abbrev pub empty_pulls : List Use → ℕ
empty_pulls uses = count_by is_none (pulls uses)

-- what is held after these uses, by the rules of its form
abbrev pub held_after : List Use → Holds → Holds
held_after [] held = held
held_after (Begin seed ∷ uses) held = held_after uses (after_begin seed held)
held_after (Push parcel ∷ uses) held = held_after uses (pushed parcel held)
held_after (Pull gift ∷ uses) held = held_after uses (pulled held).holds

-- each pull gives what these rules give
abbrev pub GivesHeld : List Use → Holds → Type 0
GivesHeld [] held = Unit {0}
GivesHeld (Begin seed ∷ uses) held = GivesHeld uses (after_begin seed held)
GivesHeld (Push parcel ∷ uses) held = GivesHeld uses (pushed parcel held)
GivesHeld (Pull gift ∷ uses) held = (gift ≡ (pulled held).gift) × GivesHeld uses (pulled held).holds

-- a list that is told now was told before, and these parcels were added at its end
abbrev pub GrewBy : List Parcel → Option (List Parcel) → Option (List Parcel) → Type 0
GrewBy more old new = IfSome new (λ parcels. option_map (λ before. before ++ more) old ≡ Some parcels)

-- what a channel tells of parcels grew by those that were pushed and given
pub record ToldLists (uses : List Use) (old new : ChannelTold) : Type 0 where
  pub pushed : GrewBy (pushes uses) old.pushed new.pushed
  pub given : GrewBy (gifts uses) old.given new.given

-- where a channel tells what it holds, each pull gives what the rules of its form give, and so is what it holds after
-- them
pub record ToldHolds (uses : List Use) (old new : ChannelTold) : Type 0 where
  pub gives : IfSome old.holds (GivesHeld uses)
  pub holds : new.holds ≡ option_map (held_after uses) old.holds

-- a count rose by at least this much, unless it is 2^64 - 1 now, where a count of 64 bits stays
abbrev pub RoseBy : ℕ → ℕ → ℕ → Type 0
RoseBy more before now = now < 2 ^ 64 - 1 → before + more ≤ now

-- the count of pulls that gave nothing rose with each of these
abbrev pub EmptiesRose : List Use → ChannelTold → ChannelTold → Type 0
EmptiesRose uses old new = RoseBy (empty_pulls uses) old.empties new.empties
