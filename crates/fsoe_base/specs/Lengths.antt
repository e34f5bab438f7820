-- The numbers of safe data bytes, and of the bytes of a frame. Which lengths there are is this profile's own.
use Rattle.std.specs.Prelude.{ℕ, ◌+◌, ◌*◌, ◌/◌, ◌%◌, ◌==◌, nat_le, Bool, ◌&&◌, ◌||◌, if◌then◌else◌}

-- the most safe data bytes of a frame
abbrev pub most_data : ℕ
most_data = 126

-- the most bytes of a frame
abbrev pub most_frame : ℕ
most_frame = 255

-- a number of safe data bytes is 1, or even and from 2 to the most
abbrev pub is_length : ℕ → Bool
is_length l = l == 1 || (l % 2 == 0 && nat_le 2 l && nat_le l most_data)

-- the groups of a load: one byte alone, or pairs of bytes
abbrev pub group_count : ℕ → ℕ
group_count l = if l == 1 then 1 else l / 2

-- a frame has its command byte, two bytes of CRC for each group besides the load, and the connection id
abbrev pub frame_len : ℕ → ℕ
frame_len l = if l == 1 then 6 else 3 + 2 * l
