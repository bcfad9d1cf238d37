-- What the loop keeps in `checksum_more`: a checksum that goes on.
use Rattle.std.proofs.Common.{◌≡◌, take}
use Rattle.lv_shards.specs.Bytes.{checksum_from}
use Rattle.lv_shards.proofs.numbers.checksum_more.Given as goal

-- the checksum of the bytes so far
abbrev pub invariant-loop-byte : goal.invariant-loop-byte
invariant-loop-byte l = l.hash ≡ checksum_from l.before (take l.byte-index l.bytes)
