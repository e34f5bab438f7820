use Rattle.fsoe_crc.specs.Remainder.{fed_bits, bits_of}
use Rattle.fsoe_crc.proofs.BitsLemmas.{next_bit, all_bits}
use Rattle.fsoe_crc.proofs.bitwise.feed_byte.Goals as goal

pub loop-place-preserved : goal.loop-place-preserved
loop-place-preserved c =
    next_bit c.loop-place.value c.feed_bit-value.result c.args.byte c.loop-place.place (fed_bits c.args.value (bits_of c.args.byte)) c.loop-place-test.true c.loop-place.invariant c.feed_bit-value.ensures

pub returns : goal.returns
returns c = all_bits c.loop-place.value (fed_bits c.args.value (bits_of c.args.byte)) c.args.byte c.loop-place.place c.loop-place-test.false c.loop-place.invariant
