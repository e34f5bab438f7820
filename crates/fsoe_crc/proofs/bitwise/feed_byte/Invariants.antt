use Rattle.std.proofs.Common.{◌≡◌, drop}
use Rattle.fsoe_crc.specs.Remainder.{fed_bits, bits_of}
use Rattle.fsoe_crc.proofs.bitwise.feed_byte.Given as goal

-- the bits to come lead to the same value
abbrev pub invariant-loop-place : goal.invariant-loop-place
invariant-loop-place l = fed_bits l.value (drop l.place (bits_of l.byte)) ≡ fed_bits l.fn.value (bits_of l.byte)
