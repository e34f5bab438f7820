-- The sequence numbers of one direction, and what is noted of its last frame. Numbers, their steps and their start
-- values are this profile's own.
use Rattle.std.specs.Prelude.{ℕ, ◌+◌, ◌==◌, List, Bool, false, Option, Some, None, if◌then◌else◌}
use Rattle.seq_chain.specs.declared.link.Link.{Link}
use Rattle.seq_chain.specs.Cover.{crc_0}

-- the number after a number: 1 after 65,535
abbrev pub next : ℕ → ℕ
next n = if n == 65535 then 1 else n + 1

-- the number of the next frame where it isn't stepped once more: 1 for the first frame of a session
abbrev pub following : Option Link → ℕ
following None = 1
following (Some link) = next link.number

-- the CRC_0 of the last frame, 0 where there is none
abbrev pub last_crc : Option Link → ℕ
last_crc None = 0
last_crc (Some link) = link.crc

-- a number, stepped once more where the frame would have the CRC_0 of the one before it
abbrev pub stepped : ℕ → Bool → ℕ
stepped n same = if same then next n else n

-- whether a frame has the CRC_0 of the one before it, by its CRC_0 under each number, if its number is the one that
-- follows
abbrev pub repeats_crc : (ℕ → ℕ) → Option Link → Bool
repeats_crc crc_under None = false
repeats_crc crc_under (Some link) = crc_under (next link.number) == link.crc

-- the number of a frame, by its CRC_0 under each number and by the frame before it
abbrev pub number : (ℕ → ℕ) → Option Link → ℕ
number crc_under before = stepped (following before) (repeats_crc crc_under before)

-- the number of a frame with this connection id, command byte and load, whose sender took a frame with the CRC_0 `last`
-- last
abbrev pub number_of : ℕ → Option Link → ℕ → ℕ → List ℕ → ℕ
number_of last before conn cmd load = number (λ n. crc_0 last conn n cmd load) before
