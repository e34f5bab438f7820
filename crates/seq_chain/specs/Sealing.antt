-- How a frame is sealed, and which frames fit, by what one direction noted of its last frame. It is this profile's own.
use Rattle.std.specs.Prelude.{ℕ, List, Bool, Option, nat_eq}
use Rattle.std.specs.Cmp.Lexicographic.{pointwise}
use Rattle.seq_chain.specs.declared.link.Link.{Link}
use Rattle.fsoe_frame.specs.Parts.{Frame}
use Rattle.seq_chain.specs.Cover.{crcs, first_of}
use Rattle.seq_chain.specs.Numbers.{number_of}

-- the frame that a sender makes: its CRCs are those under its number
abbrev pub sealed : ℕ → Option Link → ℕ → ℕ → List ℕ → Frame
sealed last before conn cmd load = record { cmd = cmd; load = load; crcs = crcs last conn (number_of last before conn cmd load) cmd load; conn = conn }

-- a frame fits where its CRCs are those that its sender would make
abbrev pub fits : ℕ → Option Link → Frame → Bool
fits last before frame = pointwise nat_eq frame.crcs (sealed last before frame.conn frame.cmd frame.load).crcs

-- what is noted of a frame: its number and its CRC_0
abbrev pub noted : ℕ → Option Link → Frame → Link
noted last before frame = record { number = number_of last before frame.conn frame.cmd frame.load; crc = first_of frame.crcs }
