-- What a channel tells of itself, and what each call makes of that.
use Rattle.std.specs.Prelude.{◌≡◌, ℕ, ◌≤◌, List, [], ◌∷◌, ◌++◌, Option, Some, None, IfSome, option_map}
use Rattle.fsoe_io.specs.Faults.{Rose}
use Rattle.black_channel.specs.Holds.{Holds, IsForm, after_begin, pushed, pulled}
use Rattle.black_channel.specs.declared.channel.Parcel.{Parcel}
use Rattle.black_channel.specs.declared.channel.Place.{Place}

-- what it holds, a count that rises where it gives nothing, and all parcels that were pushed and given, oldest first;
-- each but the count may stay untold
pub record ChannelTold : Type 0 where
  pub holds : Option Holds
  pub empties : ℕ
  pub pushed : Option (List Parcel)
  pub given : Option (List Parcel)

-- if the list is told now, then it was told before, and this parcel came to its end
abbrev pub GrowsBy : Parcel → Option (List Parcel) → Option (List Parcel) → Type 0
GrowsBy parcel old new = IfSome new (λ parcels. option_map (λ before. before ++ parcel ∷ []) old ≡ Some parcels)

-- so by a parcel that is given; where none is, nothing changes
abbrev pub GrowsByGift : Option Parcel → Option (List Parcel) → Option (List Parcel) → Type 0
GrowsByGift (Some parcel) old new = GrowsBy parcel old new
GrowsByGift None old new = new ≡ old

-- a begin with a seed
pub record Begins (seed : ℕ) (old new : ChannelTold) : Type 0 where
  pub holds : new.holds ≡ option_map (after_begin seed) old.holds
  pub form : IfSome new.holds IsForm
  pub empties : new.empties ≡ old.empties
  pub pushed : new.pushed ≡ old.pushed
  pub given : new.given ≡ old.given

-- a push of a parcel
pub record PushesParcel (parcel : Parcel) (old new : ChannelTold) : Type 0 where
  pub holds : new.holds ≡ option_map (pushed parcel) old.holds
  pub form : IfSome new.holds IsForm
  pub empties : new.empties ≡ old.empties
  pub pushed : GrowsBy parcel old.pushed new.pushed
  pub given : new.given ≡ old.given

-- a pull that gives this parcel, or nothing
pub record PullsParcel (parcel : Option Parcel) (old new : ChannelTold) : Type 0 where
  pub holds : new.holds ≡ option_map (λ held. (pulled held).holds) old.holds
  pub gift : IfSome old.holds (λ held. parcel ≡ (pulled held).gift)
  pub form : IfSome new.holds IsForm
  pub empties : old.empties ≤ new.empties
  pub nothing : parcel ≡ None → Rose old.empties new.empties
  pub pushed : new.pushed ≡ old.pushed
  pub given : GrowsByGift parcel old.given new.given

-- the parcel that a pull gives, by its answer and the frame that it wrote
abbrev pub parcel_of : Option Place → List ℕ → Option Parcel
parcel_of answer frame = option_map (λ place. record { to = place; frame = frame }) answer
