-- The payloads of a handshake, and how a piece of one fills the safe data of a frame. That each phase has its payload
-- is the public standard's; widths, order, pieces and padding are this profile's own.
use Rattle.std.specs.Prelude.{ℕ, ◌+◌, ◌-◌, ◌*◌, List, ◌++◌, length, slice_index, replicate, take, drop, Bool, nat_eq}
use Rattle.std.specs.Int.{w16, w32, to_le_bytes}
use Rattle.std.specs.Cmp.Lexicographic.{pointwise}
use Rattle.fsoe_base.specs.Bytes.{low_high, all_zero}
use Rattle.param_load.specs.declared.profile.Profile.{Profile}
use Rattle.param_load.specs.declared.profile.Profile.TheVariants as profile

-- a session id, low byte first
abbrev pub session_payload : ℕ → Profile → List ℕ
session_payload id profile.One = to_le_bytes w16 id
session_payload id (profile.Two word) = to_le_bytes w32 id

-- a connection id and a slave address
abbrev pub connection_payload : ℕ → ℕ → List ℕ
connection_payload conn address = low_high conn ++ low_high address

-- the communication parameters with their length in front
abbrev pub communication : ℕ → Profile → List ℕ
communication watchdog profile.One = low_high 2 ++ low_high watchdog
communication watchdog (profile.Two word) = low_high 4 ++ low_high watchdog ++ low_high word

-- the communication parameters, then the application parameters, with their number in front
abbrev pub parameter_payload : ℕ → Profile → List ℕ → List ℕ
parameter_payload watchdog profile app = communication watchdog profile ++ low_high (length app) ++ app

-- the piece of a payload that begins at a place
abbrev pub piece_from : List ℕ → ℕ → ℕ → List ℕ
piece_from payload from piece = take piece (drop from payload)

-- the number in the two bytes from a place on, low byte first
abbrev pub number_at : ℕ → List ℕ → ℕ
number_at place bytes = slice_index bytes place + 256 * slice_index bytes (place + 1)

-- a piece, then zeros up to the length of a frame's safe data
abbrev pub padded : List ℕ → ℕ → List ℕ
padded piece len = piece ++ replicate (len - length piece) 0

-- an echo is the piece, and zeros after it
abbrev pub is_echo : List ℕ → List ℕ → Bool
is_echo piece bytes = pointwise nat_eq bytes (padded piece (length bytes))

-- an answer that is no echo has zeros from the end of the piece on
abbrev pub is_padded : List ℕ → List ℕ → Bool
is_padded piece bytes = all_zero (drop (length piece) bytes)
