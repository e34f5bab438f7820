-- How a frame is laid out: the command byte, each group of the load followed by its CRC, and the connection id. The
-- order is that of the public standard.
use Rattle.std.specs.Prelude.{ℕ, List, [], ◌∷◌, ◌++◌}
use Rattle.fsoe_base.specs.Bytes.{low_high}

-- the groups of a load: itself where it has one byte, else its pairs of bytes
abbrev pub groups : List ℕ → List (List ℕ)
groups [] = []
groups (d ∷ []) = (d ∷ []) ∷ []
groups (d ∷ d' ∷ load) = (d ∷ d' ∷ []) ∷ groups load

-- each group, followed by its CRC
abbrev pub with_crcs : List (List ℕ) → List ℕ → List ℕ
with_crcs (group ∷ more) (crc ∷ crcs) = group ++ low_high crc ++ with_crcs more crcs
with_crcs [] crcs = []
with_crcs (group ∷ more) [] = []

-- the bytes of a frame with this command byte, load, CRCs and connection id
abbrev pub layout : ℕ → List ℕ → List ℕ → ℕ → List ℕ
layout cmd load crcs conn = cmd ∷ with_crcs (groups load) crcs ++ low_high conn
