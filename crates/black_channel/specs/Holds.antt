-- What a channel holds, in one of three forms, and what each call makes of it. Parcels are listed oldest first.
use Rattle.std.specs.Prelude.{ℕ, ◌-◌, ◌/◌, ◌%◌, ◌^◌, ◌==◌, ◌≤◌, nat_le, if◌then◌else◌, List, [], ◌∷◌, ◌++◌, length, drop, All, Option, Some, None, IfSome, ⊤}
use Rattle.std.specs.Option.{option_or}
use Rattle.rand_core.specs.Pcg32Seed.{pcg32_seed}
use Rattle.rand_pcg.specs.Lcg.{Lcg}
use Rattle.rand_pcg.specs.Pcg.{pcg32, pcg32_of_seed}
use Rattle.black_channel.specs.Altered.{altered}
use Rattle.black_channel.specs.declared.channel.Parcel.{Parcel}

-- the parcels under way in a channel that keeps their order; those in a channel of chance, the parcel that it gave
-- last, if any, and its generator; or the parcels that a channel is still to give
pub data Holds : Type 0 where
  Ring : List Parcel → Holds
  Chance : List Parcel → Option Parcel → Lcg → Holds
  Gifts : List Parcel → Holds

-- a parcel has a frame of 1 to 255 bytes
pub record HasFrame (parcel : Parcel) : Type 0 where
  pub some : 1 ≤ length parcel.frame
  pub most : length parcel.frame ≤ 255

-- at most 1,024 parcels are under way
pub record IsRing (ring : List Parcel) : Type 0 where
  pub most : length ring ≤ 1024
  pub frames : All HasFrame ring

-- what the forms keep to; gifts may be any parcels
abbrev pub IsForm : Holds → Type 0
IsForm (Ring ring) = IsRing ring
IsForm (Chance ring last words) = IsRing ring × IfSome last HasFrame
IsForm (Gifts gifts) = ⊤

-- the last so many parcels
abbrev pub last_parcels : ℕ → List Parcel → List Parcel
last_parcels most parcels = drop (length parcels - most) parcels

-- a parcel is appended to a ring, and the oldest is lost where it was full
abbrev pub ring_with : Parcel → List Parcel → List Parcel
ring_with parcel ring = last_parcels 1024 (ring ++ parcel ∷ [])

-- the generator of a seed
abbrev pub seed_generator : ℕ → Lcg
seed_generator seed = pcg32_of_seed (pcg32_seed 16 seed)

-- what is held after a begin with a seed
abbrev pub after_begin : ℕ → Holds → Holds
after_begin seed (Ring ring) = Ring []
after_begin seed (Chance ring last words) = Chance [] None (seed_generator seed)
after_begin seed (Gifts gifts) = Gifts gifts

-- what is held after a push
abbrev pub pushed : Parcel → Holds → Holds
pushed parcel (Ring ring) = Ring (ring_with parcel ring)
pushed parcel (Chance ring last words) = Chance (ring_with parcel ring) last words
pushed parcel (Gifts gifts) = Gifts gifts

-- the parcel that is given, if any, and those that are left
pub record Given : Type 0 where
  pub gift : Option Parcel
  pub left : List Parcel

-- the oldest parcel is taken and given, where there is one
abbrev pub oldest_taken : List Parcel → Given
oldest_taken [] = record { gift = None; left = [] }
oldest_taken (oldest ∷ others) = record { gift = Some oldest; left = others }

-- a frame with one bit turned: the word from its bit 16 on says which bit, counted from the lowest, and from its bit 8
-- on of which byte
abbrev pub turned_frame : ℕ → List ℕ → List ℕ
turned_frame word frame = altered (word / 2 ^ 8 % length frame) (2 ^ (word / 2 ^ 16 % 8)) frame

abbrev pub with_bit_turned : ℕ → Parcel → Parcel
with_bit_turned word parcel = record parcel { frame = turned_frame word parcel.frame }

-- what a channel of chance gives by a word with this rest by 16, where a parcel is under way: it takes and gives the
-- oldest; throws it away; gives it and leaves it; moves it to the end, and then takes and gives the oldest; takes and
-- gives it with one bit turned; gives the parcel given last again; gives nothing
abbrev pub given_by : ℕ → ℕ → Parcel → List Parcel → Option Parcel → Given
given_by rest word oldest others last =
    if nat_le rest 8 then oldest_taken (oldest ∷ others)
    else if rest == 9 then record { gift = None; left = others }
    else if rest == 10 then record { gift = Some oldest; left = oldest ∷ others }
    else if rest == 11 then oldest_taken (others ++ oldest ∷ [])
    else if nat_le rest 13 then record { gift = Some (with_bit_turned word oldest); left = others }
    else if rest == 14 then record { gift = last; left = oldest ∷ others }
    else record { gift = None; left = oldest ∷ others }

-- what a pull gives, and what is held after it
pub record Pulled : Type 0 where
  pub gift : Option Parcel
  pub holds : Holds

-- in a channel of chance each parcel given becomes the one given last, as it was given
abbrev pub with_last : Given → Option Parcel → Lcg → Pulled
with_last given last words = record { gift = given.gift; holds = Chance given.left (option_or given.gift last) words }

-- a pull of what is held; a word of the generator is drawn only where a parcel is under way
abbrev pub pulled : Holds → Pulled
pulled (Ring ring) = record { gift = (oldest_taken ring).gift; holds = Ring (oldest_taken ring).left }
pulled (Gifts gifts) = record { gift = (oldest_taken gifts).gift; holds = Gifts (oldest_taken gifts).left }
pulled (Chance [] last words) = record { gift = None; holds = Chance [] last words }
pulled (Chance (oldest ∷ others) last words) =
    let word = (pcg32 words).0 in
    with_last (given_by (word % 16) word oldest others last) last (pcg32 words).1
