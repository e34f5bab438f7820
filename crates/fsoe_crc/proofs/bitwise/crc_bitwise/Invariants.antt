use Rattle.std.proofs.Common.{◌≡◌, drop}
use Rattle.fsoe_crc.specs.Remainder.{fed_bytes}
use Rattle.fsoe_crc.proofs.bitwise.crc_bitwise.Given as goal

-- the bytes to come lead to the same value
abbrev pub invariant-loop-byte : goal.invariant-loop-byte
invariant-loop-byte l = fed_bytes l.value (drop l.byte-index l.bytes) ≡ fed_bytes 0 l.fn.bytes
