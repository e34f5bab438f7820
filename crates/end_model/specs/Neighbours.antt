-- Frames that one end sends after one another in a session.
use Rattle.std.specs.Prelude.{◌≢◌, ℕ, List, [], ◌∷◌}
use Rattle.fsoe_frame.specs.Parts.{frame_of}
use Rattle.seq_chain.specs.Cover.{first_of}

-- a CRC_0 isn't that of the newest of these frames, if there is one
abbrev pub IsOtherThanNewest : ℕ → ℕ → List (List ℕ) → Type 0
IsOtherThanNewest l crc [] = Unit {0}
IsOtherThanNewest l crc (f ∷ frames) = crc ≢ first_of (frame_of l f).crcs

-- each of these frames, newest first, has another CRC_0 than the one before it
abbrev pub NeighboursDiffer : ℕ → List (List ℕ) → Type 0
NeighboursDiffer l [] = Unit {0}
NeighboursDiffer l (f ∷ frames) = IsOtherThanNewest l (first_of (frame_of l f).crcs) frames × NeighboursDiffer l frames
