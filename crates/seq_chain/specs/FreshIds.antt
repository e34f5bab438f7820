-- What tells the frames of two sessions apart. Numbers differ by their exclusive-or.
use Rattle.std.specs.Prelude.{◌≡◌, ℕ, ◌+◌, ◌*◌, List, [], ◌∷◌, Option}
use Rattle.seq_chain.specs.declared.link.Link.{Link}
use Rattle.fsoe_frame.specs.Parts.{Frame}
use Rattle.seq_chain.specs.Differences.{steps_again}

-- the first group of a load as a number, low byte first
abbrev pub first_number : List ℕ → ℕ
first_number [] = 0
first_number (d ∷ []) = d
first_number (d ∷ d' ∷ load) = d + 256 * d'

-- the second step of the number comes for a frame after both of these CRC_0, or after neither
abbrev pub SteppedAlikeAfter : ℕ → ℕ → Option Link → Frame → Type 0
SteppedAlikeAfter last last' before f = steps_again last before f ≡ steps_again last' before f

-- what a step of the number from 2 to 3 is to the CRC, a difference of the CRC_0 taken last by this is too: the CRC of
-- the bytes B6 72, of a connection id 00 00 and of the number's difference 01 00 is 0
abbrev pub step_in_last : ℕ
step_in_last = 0x72B6

-- first groups that differ by this give CRC_0 that differ by `step_in_last`, which is the CRC of the bytes 85 99 and of
-- three zeros
abbrev pub step_in_load : ℕ
step_in_load = 0x9985
