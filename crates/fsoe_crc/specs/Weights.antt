-- How many changes of data turn how many bits.
use Rattle.std.specs.Prelude.{ℕ, ◌+◌, ◌-◌, ◌*◌, ◌/◌, ◌%◌, ◌^◌, ◌==◌, [], ◌∷◌, map, sum, count_by, count_ones}
use Rattle.std.specs.List.{range_with_len}
use Rattle.fsoe_crc.specs.Remainder.{rem}

-- the bits that a change of two data bytes turns, in them and in their CRC. The change is a number whose high byte
-- comes first, and three zeros follow the data. Up to 255 it changes the second byte alone
abbrev pub bits_turned_by : ℕ → ℕ
bits_turned_by change = count_ones change + count_ones (rem (change / 256 ∷ change % 256 ∷ 0 ∷ 0 ∷ 0 ∷ []))

-- how many of the changes from 1 to this one turn this many bits
unfoldable pub changes_turning : ℕ → ℕ → ℕ
changes_turning most bits = count_by (λ turned. turned == bits) (map bits_turned_by (range_with_len 1 most))

-- each of `bits` bits is turned in `turned` of `turned + kept` cases, whatever befalls the others: in how many cases of
-- all just these are turned, if they are n bits
abbrev pub cases_turning : ℕ → ℕ → ℕ → ℕ → ℕ
cases_turning bits turned kept n = turned ^ n * kept ^ (bits - n)

-- in how many of these cases just the bits are turned that one of the changes from 1 to this one turns
unfoldable pub cases_passing : ℕ → ℕ → ℕ → ℕ → ℕ
cases_passing most bits turned kept = sum (map (λ change. cases_turning bits turned kept (bits_turned_by change)) (range_with_len 1 most))
