-- The bits of an image: bit b is bit b mod 8, lowest first, of byte b / 8.
use Rattle.std.specs.Prelude.{ℕ, ◌/◌, ◌%◌, ◌^◌, ◌==◌, List, slice_index, slice_set, Bool, true, false, not, bit_and, bit_or, bit_xor}

-- the value of bit b of an image
abbrev pub bit_of : List ℕ → ℕ → Bool
bit_of bytes b = not (bit_and (slice_index bytes (b / 8)) (2 ^ (b % 8)) == 0)

-- a byte with this bit of it set or cleared
abbrev pub byte_with : ℕ → ℕ → Bool → ℕ
byte_with byte bit true = bit_or byte bit
byte_with byte bit false = bit_and byte (bit_xor bit 255)

-- an image with bit b set or cleared
abbrev pub with_bit : List ℕ → ℕ → Bool → List ℕ
with_bit bytes b v = slice_set bytes (b / 8) (byte_with (slice_index bytes (b / 8)) (2 ^ (b % 8)) v)
