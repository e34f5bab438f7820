-- What a channel tells at first, and how it counts pulls that gave nothing.
use Rattle.std.specs.Prelude.{ℕ, ◌+◌, ◌-◌, ◌^◌, min, Option, Some, None}
use Rattle.black_channel.specs.declared.channel.Place.{Place}
use Rattle.black_channel.specs.Holds.{Holds}
use Rattle.black_channel.specs.Told.{ChannelTold}

-- a channel that tells what it holds and its count, and no parcels
abbrev pub holding : Holds → ℕ → ChannelTold
holding holds empties = record { holds = Some holds; empties = empties; pushed = None; given = None }

-- the number of pulls that gave nothing, which stays at 2^64 - 1, after one more pull
abbrev pub empties_after : Option Place → ℕ → ℕ
empties_after (Some place) empties = empties
empties_after None empties = min (empties + 1) (2 ^ 64 - 1)
