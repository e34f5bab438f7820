-- How many bits are turned.
use Rattle.std.specs.Prelude.{ℕ, bit_xor, count_ones}

-- in how many bits two numbers differ
abbrev pub turned_bits : ℕ → ℕ → ℕ
turned_bits m n = count_ones (bit_xor m n)
