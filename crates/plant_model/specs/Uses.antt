-- What happens to a channel while a plant uses it. Uses are listed oldest first.
use Rattle.std.specs.Prelude.{◌≡◌, ℕ, List, [], ◌∷◌, Option}
use Rattle.black_channel.specs.Told.{ChannelTold, Begins, PushesParcel, PullsParcel}
use Rattle.black_channel.specs.declared.channel.Parcel.{Parcel}

-- a use: the channel begins with a seed, a parcel is pushed to it, or it is pulled from and gives a parcel or nothing
pub data Use : Type 0 where
  Begin : ℕ → Use
  Push : Parcel → Use
  Pull : Option Parcel → Use

-- a use leads a channel from what it told before to what it tells after it
abbrev pub Leads : Use → ChannelTold → ChannelTold → Type 0
Leads (Begin seed) old new = Begins seed old new
Leads (Push parcel) old new = PushesParcel parcel old new
Leads (Pull gift) old new = PullsParcel gift old new

-- so these uses do, one after the other. Of what the channel doesn't tell, this says nothing
abbrev pub Trace : List Use → ChannelTold → ChannelTold → Type 0
Trace [] old new = old ≡ new
Trace (one ∷ uses) old new = (next : ChannelTold) × Leads one old next × Trace uses next new
