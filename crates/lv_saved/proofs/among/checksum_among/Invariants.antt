-- What the loop keeps in `checksum_among`: the checksum of the bytes of all numbers.
use Rattle.std.proofs.Common.{◌≡◌, take}
use Rattle.lv_saved.specs.Saved.{numbers_by}
use Rattle.lv_shards.specs.Bytes.{checksum_of, spelled}
use Rattle.lv_saved.proofs.among.checksum_among.Given as goal

-- the checksum of the numbers so far
abbrev pub invariant-loop-j : goal.invariant-loop-j
invariant-loop-j l = l.hash ≡ checksum_of (spelled (take l.j (numbers_by l.head l.elements l.times)))
