-- What the CRCs of a frame cover. The parts and their order are this profile's own.
use Rattle.std.specs.Prelude.{ℕ, zero, suc, List, [], ◌∷◌, ◌++◌}
use Rattle.fsoe_crc.specs.Remainder.{rem}
use Rattle.fsoe_base.specs.Bytes.{low_high}
use Rattle.fsoe_frame.specs.Layout.{groups}

-- what all groups of a frame cover first: the CRC_0 that the sender took last, the connection id, the number and the
-- command byte
abbrev pub common : ℕ → ℕ → ℕ → ℕ → List ℕ
common last conn number cmd = low_high last ++ low_high conn ++ low_high number ++ cmd ∷ []

-- the place of a group among the groups: nothing for the first
abbrev pub place : ℕ → List ℕ
place zero = []
place (suc i) = low_high (suc i)

-- a group covers this beginning, its place, its data and three zeros
abbrev pub covered : List ℕ → ℕ → List ℕ → List ℕ
covered first i group = first ++ place i ++ group ++ 0 ∷ 0 ∷ 0 ∷ []

-- what the CRC of group i covers
abbrev pub cover : ℕ → ℕ → ℕ → ℕ → ℕ → List ℕ → List ℕ
cover last conn number cmd i group = covered (common last conn number cmd) i group

-- the CRCs of these groups, of which the first has place i
abbrev pub crcs_from : ℕ → ℕ → ℕ → ℕ → ℕ → List (List ℕ) → List ℕ
crcs_from last conn number cmd i [] = []
crcs_from last conn number cmd i (group ∷ more) = rem (cover last conn number cmd i group) ∷ crcs_from last conn number cmd (suc i) more

-- the CRCs of the groups of a load
abbrev pub crcs : ℕ → ℕ → ℕ → ℕ → List ℕ → List ℕ
crcs last conn number cmd load = crcs_from last conn number cmd 0 (groups load)

-- the first of these CRCs
abbrev pub first_of : List ℕ → ℕ
first_of [] = 0
first_of (crc ∷ more) = crc

-- the CRC of the first group of a load
abbrev pub crc_0 : ℕ → ℕ → ℕ → ℕ → List ℕ → ℕ
crc_0 last conn number cmd load = first_of (crcs last conn number cmd load)
