-- Worked rows of a channel of chosen rates, made in the same way as those of a channel of chance.
use Rattle.std.specs.Prelude.{◌≡◌, ℕ, zero, suc, List, [], ◌∷◌}
use Rattle.rand_pcg.specs.Pcg.{pcg32}
use Rattle.black_channel.specs.Holds.{seed_generator}
use Rattle.black_channel.specs.WorkedHolds.{parcel, number}
use Rattle.rate_channel.specs.Rated.{RateView, pushed, pulled}
use Rattle.rate_channel.specs.declared.rate_channel.Rates.{Rates}

-- what a channel holds after pushes of the parcels of the connections from 1 on
abbrev pub after_pushes : ℕ → RateView → RateView
after_pushes zero v = v
after_pushes (suc n) v =
    let before : RateView = after_pushes n v in
    let draw = pcg32 before.words in
    record before { ring = pushed before.rates draw.0 (parcel (suc n)) before.ring; words = draw.1 }

-- what so many pulls give
abbrev pub gifts : ℕ → RateView → List ℕ
gifts zero v = []
gifts (suc n) v =
    let draw = pcg32 v.words in
    let given = pulled v.rates draw.0 v.ring in
    number given.gift ∷ gifts n (record v { ring = given.left; words = draw.1 })

-- what so many pulls of a channel with these rates give, by its seed and after pushes to so many connections
abbrev pub given : Rates → ℕ → ℕ → ℕ → List ℕ
given rates seed links pulls = gifts pulls (after_pushes links (record { rates = rates; ring = []; words = seed_generator seed; empties = 0 }))

-- parcels that are lost, altered, repeated and late
unfoldable pub RateRows : Type 0
RateRows =
    (given (record { lose = 2500; alter = 2500; repeat = 2500; late = 2500 }) 0 6 12
    ≡ 0x1031 ∷ 0x202122 ∷ 0 ∷ 0x202122 ∷ 0 ∷ 0x40 ∷ 0x40 ∷ 0 ∷ 0x5071 ∷ 0x206162 ∷ 0 ∷ 0 ∷ [])
    × (given (record { lose = 2000; alter = 2000; repeat = 2000; late = 4000 }) 4 12 18
    ≡ 0x1011 ∷ 0x1011 ∷ 0x30B13233 ∷ 0x40 ∷ 0 ∷ 0x5051 ∷ 0 ∷ 0x5051 ∷ 0x606162 ∷ 0x70317273 ∷ 0x80 ∷ 0x80 ∷ 0x9091 ∷ 0 ∷ 0x9091 ∷ 0xA0A1A2 ∷ 0xB0B1B2B3 ∷ 0xC0 ∷ [])
    × (given (record { lose = 0; alter = 0; repeat = 0; late = 0 }) 2 4 5 ≡ 0x1011 ∷ 0x202122 ∷ 0x30313233 ∷ 0x40 ∷ 0 ∷ [])
