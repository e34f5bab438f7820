-- The last frames of one end by looking back over all that it sent. Lists are newest first.
use Rattle.std.specs.Prelude.{ℕ, ◌≡◌, ◌<◌, ◌-◌, ◌^◌, min, List, ◌∷◌, ◌++◌, length, take, drop, reverse, Bool, true, false, Option, Some, None}
use Rattle.black_channel.specs.Altered.{back_th}

-- what contracts see of a window: the frames that it still has, and how many were pushed, 2^64 - 1 for all greater
-- numbers
pub record WindowView : Type 0 where
  pub frames : List (List ℕ)
  pub sent : ℕ

-- a window to which these frames were pushed has the last 64 of them
abbrev pub window_of : List (List ℕ) → WindowView
window_of frames = record { frames = take 64 frames; sent = min (length frames) (2 ^ 64 - 1) }

-- a window that stood for some frames stands for these and the one that is pushed
pub record Pushes (old : WindowView) (frame : List ℕ) (new : WindowView) : Type 0 where
  pub stands : (frames : List (List ℕ)) → old ≡ window_of frames → new ≡ window_of (frame ∷ frames)

-- the frame that was written, if one was found
abbrev pub found : Bool → List ℕ → Option (List ℕ)
found true frame = Some frame
found false frame = None

-- what a window tells of a frame so many back is the frame so many back of all that were pushed
pub record Tells (v : WindowView) (j : ℕ) (told : Option (List ℕ)) : Type 0 where
  pub tells : (frames : List (List ℕ)) → v ≡ window_of frames → told ≡ back_th j frames

-- the frames of a ring, newest first, where `next` is the place of the oldest one
abbrev pub newest_first : ℕ → List (List ℕ) → List (List ℕ)
newest_first next ring = reverse (drop next ring ++ take next ring)

-- a ring holds the last 64 frames of those that were pushed, and turns only once it is full
pub record IsRing (next sent len : ℕ) : Type 0 where
  pub count : len ≡ min sent 64
  pub place : next < 64
  pub straight : len < 64 → next ≡ 0
