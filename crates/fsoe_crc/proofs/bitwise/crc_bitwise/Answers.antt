use Rattle.fsoe_crc.proofs.BitsLemmas.{whole_rem}
use Rattle.fsoe_crc.proofs.bitwise.crc_bitwise.Goals as goal

pub returns : goal.returns
returns c = whole_rem c.args.bytes.now c.loop-byte.value c.loop-byte.byte-index c.feed_byte.result c.feed_byte-2.result c.loop-byte-test.false c.loop-byte.invariant c.feed_byte.ensures c.feed_byte-2.ensures
