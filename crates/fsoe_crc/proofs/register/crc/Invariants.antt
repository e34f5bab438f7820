use Rattle.std.proofs.Common.{◌≡◌, take}
use Rattle.fsoe_crc.specs.Remainder.{rem}
use Rattle.fsoe_crc.proofs.register.crc.Given as goal

-- the value is the CRC of the bytes so far
abbrev pub invariant-loop-byte : goal.invariant-loop-byte
invariant-loop-byte l = rem (take l.byte-index l.bytes) ≡ l.register
