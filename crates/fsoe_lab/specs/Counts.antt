-- The text of the command `crc`: how many changes of data turn how many bits.
use Rattle.std.specs.Prelude.{ℕ, List, ◌++◌, codes, decimal}
use Rattle.std.specs.List.{range_with_len, flat_map}
use Rattle.fsoe_crc.specs.Weights.{changes_turning}

-- the line of a number of bits, and how many changes turn so many
abbrev pub count_line : List ℕ → ℕ → ℕ → List ℕ
count_line word most bits = word ++ codes " " ++ decimal bits ++ codes " " ++ decimal (changes_turning most bits) ++ codes "\n"

-- the lines of the numbers of bits from 1 to this one
unfoldable pub count_lines : List ℕ → ℕ → ℕ → List ℕ
count_lines word most top = flat_map (count_line word most) (range_with_len 1 top)

-- two data bytes with their CRC are 32 bits, one is 24 with its CRC
abbrev pub counts_text : List ℕ
counts_text = count_lines (codes "two") 65535 32 ++ count_lines (codes "one") 255 24
