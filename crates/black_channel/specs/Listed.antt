-- What contracts see of a channel that gives listed parcels.
use Rattle.std.specs.Prelude.{ℕ, nat_lt, if◌then◌else◌, List, [], ◌∷◌, ◌++◌, length, Option, Some, None}
use Rattle.black_channel.specs.Holds.{Gifts}
use Rattle.black_channel.specs.Told.{ChannelTold}
use Rattle.black_channel.specs.declared.channel.Parcel.{Parcel}

-- the parcels that it is still to give, those that it gave, those that were pushed as long as it tells them, of how
-- many pushes it tells at most, and how many pulls gave nothing
pub record ListView : Type 0 where
  pub gifts : List Parcel
  pub given : List Parcel
  pub pushed : Option (List Parcel)
  pub room : ℕ
  pub empties : ℕ

-- what it tells
abbrev pub told_of : ListView → ChannelTold
told_of v = record { holds = Some (Gifts v.gifts); empties = v.empties; pushed = v.pushed; given = Some v.given }

-- before its first call
abbrev pub listing : List Parcel → ℕ → ListView
listing gifts room = record { gifts = gifts; given = []; pushed = Some []; room = room; empties = 0 }

-- a push is told while there is room for it; from the first one without room on no pushes are told
abbrev pub pushed_within : ℕ → Parcel → Option (List Parcel) → Option (List Parcel)
pushed_within room parcel None = None
pushed_within room parcel (Some parcels) = if nat_lt (length parcels) room then Some (parcels ++ parcel ∷ []) else None
