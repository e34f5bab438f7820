-- The CRC of a list of bytes: its remainder by the polynomial 139B7h. The polynomial, the start value 0 and the order
-- of the bits are this profile's own.
use Rattle.std.specs.Prelude.{ℕ, ◌+◌, ◌*◌, ◌/◌, ◌%◌, List, [], ◌∷◌, if◌then◌else◌, nat_lt, bit_xor, replicate}

-- one bit more: twice the value and the bit, less the polynomial (by exclusive-or) where that has 17 bits
unfoldable pub fed : ℕ → ℕ → ℕ
fed v bit = if nat_lt (2 * v + bit) 0x10000 then 2 * v + bit else bit_xor (2 * v + bit) 0x139B7

-- these bits more, in order
abbrev pub fed_bits : ℕ → List ℕ → ℕ
fed_bits v [] = v
fed_bits v (bit ∷ bits) = fed_bits (fed v bit) bits

-- the bits of a byte, highest first
unfoldable pub bits_of : ℕ → List ℕ
bits_of b = b / 128 % 2 ∷ b / 64 % 2 ∷ b / 32 % 2 ∷ b / 16 % 2 ∷ b / 8 % 2 ∷ b / 4 % 2 ∷ b / 2 % 2 ∷ b % 2 ∷ []

-- these bytes more, in order
abbrev pub fed_bytes : ℕ → List ℕ → ℕ
fed_bytes v [] = v
fed_bytes v (b ∷ bytes) = fed_bytes (fed_bits v (bits_of b)) bytes

-- sixteen zero bits
unfoldable pub sixteen_zeros : List ℕ
sixteen_zeros = 0 ∷ 0 ∷ 0 ∷ 0 ∷ 0 ∷ 0 ∷ 0 ∷ 0 ∷ 0 ∷ 0 ∷ 0 ∷ 0 ∷ 0 ∷ 0 ∷ 0 ∷ 0 ∷ []

-- the CRC: the bytes from value 0, and then sixteen zero bits
unfoldable pub rem : List ℕ → ℕ
rem bytes = fed_bits (fed_bytes 0 bytes) sixteen_zeros

-- what n zero bytes make of a high byte over a low byte 0
unfoldable pub zeros_entry : ℕ → ℕ → ℕ
zeros_entry n high = fed_bytes (256 * high) (replicate n 0)

-- opens all that a worked value of the CRC computes with
unfoldable pub computing : Unit {0}
unfolding rem fed bits_of sixteen_zeros
computing = tt
