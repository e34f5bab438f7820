-- What a channel of chosen rates holds, and what a push and a pull make of it. Parcels are listed oldest first.
use Rattle.std.specs.Prelude.{ℕ, ◌+◌, ◌%◌, nat_lt, if◌then◌else◌, List, [], Option, Some, None}
use Rattle.rand_pcg.specs.Lcg.{Lcg}
use Rattle.black_channel.specs.Holds.{Holds, Ring, Given, ring_with, oldest_taken, with_bit_turned}
use Rattle.black_channel.specs.Told.{ChannelTold}
use Rattle.black_channel.specs.declared.channel.Parcel.{Parcel}
use Rattle.rate_channel.specs.declared.rate_channel.Rates.{Rates}

-- its rates, the parcels under way, its generator, and how many pulls gave nothing
pub record RateView : Type 0 where
  pub rates : Rates
  pub ring : List Parcel
  pub words : Lcg
  pub empties : ℕ

-- it tells its count alone
abbrev pub told_of : RateView → ChannelTold
told_of v = record { holds = None; empties = v.empties; pushed = None; given = None }

-- the parcels after a push, by a word's rest by 10,000: the parcel is lost; or it is appended with one bit turned,
-- twice, or once
abbrev pub pushed : Rates → ℕ → Parcel → List Parcel → List Parcel
pushed rates word parcel ring =
    let rest = word % 10000 in
    if nat_lt rest rates.lose then ring
    else if nat_lt rest (rates.lose + rates.alter) then ring_with (with_bit_turned word parcel) ring
    else if nat_lt rest (rates.lose + rates.alter + rates.repeat) then ring_with parcel (ring_with parcel ring)
    else ring_with parcel ring

-- what a pull gives: nothing, so that all is late; or it takes and gives the oldest parcel, if any
abbrev pub pulled : Rates → ℕ → List Parcel → Given
pulled rates word ring = if nat_lt (word % 10000) rates.late then record { gift = None; left = ring } else oldest_taken ring

-- the parcels of a channel that keeps order
abbrev pub ring_of : Option Holds → List Parcel
ring_of (Some (Ring ring)) = ring
ring_of holds = []
