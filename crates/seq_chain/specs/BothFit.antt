-- Two frames that both fit after the same frames, and differ in the data of their one group alone: the number of one is
-- stepped once more, that of the other isn't.
use Rattle.std.specs.Prelude.{[], ◌∷◌, Option, Some}
use Rattle.seq_chain.specs.declared.link.Link.{Link}
use Rattle.fsoe_frame.specs.Parts.{Frame}

-- what is noted of the frame before them
abbrev pub noted_before : Option Link
noted_before = Some (record { number = 8; crc = 0xA9CF })

-- the frame with number 10: under number 9 it would have the CRC_0 of the frame before it
abbrev pub stepped_frame : Frame
stepped_frame = record { cmd = 0x36; load = 0x50 ∷ 0x26 ∷ []; crcs = 0xC8D4 ∷ []; conn = 1 }

-- the frame with number 9
abbrev pub other_frame : Frame
other_frame = record { cmd = 0x36; load = 0xE2 ∷ 0x9C ∷ []; crcs = 0xC8D4 ∷ []; conn = 1 }
