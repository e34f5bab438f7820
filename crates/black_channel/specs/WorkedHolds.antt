-- Worked rows of what channels hold. A program in another language made those of chance, from the table of a pull and
-- the generator's published algorithm.
use Rattle.std.specs.Prelude.{◌≡◌, ℕ, zero, suc, ◌+◌, ◌-◌, ◌*◌, ◌%◌, ◌^◌, List, [], ◌∷◌, ◌++◌, map, fold, replicate, take, Option, Some, None}
use Rattle.fsoe_base.specs.declared.command.End.TheVariants as side
use Rattle.black_channel.specs.Holds.{Holds, Chance, seed_generator, pushed, pulled, ring_with}
use Rattle.black_channel.specs.declared.channel.Parcel.{Parcel}

-- a parcel for the slave of a connection, of 1 to 4 bytes that begin with 16 times its number
abbrev pub parcel : ℕ → Parcel
parcel link = record {
  to = record { link = link; end = side.Slave };
  frame = take (link % 4 + 1) (map (λ n. 16 * link + n) (0 ∷ 1 ∷ 2 ∷ 3 ∷ []));
}

-- the frame of a parcel as a number, its first byte the highest; 0 where nothing is given
abbrev pub number : Option Parcel → ℕ
number None = 0
number (Some parcel) = fold (λ n byte. 256 * n + byte) 0 parcel.frame

-- what is held after pushes of the parcels of the connections from 1 on
abbrev pub after_pushes : ℕ → Holds → Holds
after_pushes zero held = held
after_pushes (suc n) held = pushed (parcel (suc n)) (after_pushes n held)

-- what so many pulls give
abbrev pub gifts : ℕ → Holds → List ℕ
gifts zero held = []
gifts (suc n) held = let next = pulled held in number next.gift ∷ gifts n next.holds

-- what so many pulls of a channel of chance give, by its seed and after pushes to so many connections
abbrev pub given : ℕ → ℕ → ℕ → List ℕ
given seed links pulls = gifts pulls (after_pushes links (Chance [] None (seed_generator seed)))

-- each rest of a word by 16 that the table of a pull tells apart, the last parcel given again with none given yet too
unfoldable pub ChanceRows : Type 0
ChanceRows =
    (given 4 12 15
    ≡ 0 ∷ 0 ∷ 0x1011 ∷ 0x202132 ∷ 0x202132 ∷ 0x30313333 ∷ 0x40 ∷ 0x5051 ∷ 0x606162 ∷ 0 ∷ 0x70717273 ∷ 0x9091 ∷ 0xA0A1A2 ∷ 0xA0A1A2 ∷ 0xB0B1B2B3 ∷ [])
    × (given 7 6 8 ≡ 0 ∷ 0 ∷ 0x212122 ∷ 0x30313233 ∷ 0x50 ∷ 0x5011 ∷ 0x606162 ∷ 0 ∷ [])
    × (given (2 ^ 64 - 1) 6 10 ≡ 0 ∷ 0x1011 ∷ 0x20A122 ∷ 0x10313233 ∷ 0x40 ∷ 0x40 ∷ 0x5053 ∷ 0x606562 ∷ 0 ∷ 0 ∷ [])

-- a ring of 1,024 parcels loses the oldest, and one of 1,023 none
unfoldable pub FullRing : Type 0
FullRing =
    (ring_with (parcel 3) (parcel 1 ∷ replicate 1023 (parcel 2)) ≡ replicate 1023 (parcel 2) ++ parcel 3 ∷ [])
    × (ring_with (parcel 3) (replicate 1023 (parcel 2)) ≡ replicate 1023 (parcel 2) ++ parcel 3 ∷ [])
