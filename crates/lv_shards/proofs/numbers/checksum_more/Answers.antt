-- Proof of `checksum_more`: a checksum that goes on.
use Rattle.lv_shards.proofs.Written.{checksum_more, checksum_none}
use Rattle.lv_shards.proofs.numbers.checksum_more.Goals as goal

pub loop-byte-init : goal.loop-byte-init
loop-byte-init c = checksum_none c.args.before

pub loop-byte-preserved : goal.loop-byte-preserved
loop-byte-preserved c = checksum_more c.args.before c.args.bytes.now c.loop-byte.byte-index c.loop-byte.hash c.from.result c.loop-byte-test.true c.loop-byte.invariant c.from.ensures
