-- What the loop keeps in `are_bytes_of`: whether the bytes are those of these numbers.
use Rattle.std.proofs.Common.{◌≡◌, ◌*◌, take}
use Rattle.lv_saved.specs.Saved.{numbers_by, with_checksum}
use Rattle.lv_shards.specs.Bytes.{spelled}
use Rattle.lv_saved.proofs.exact.are_bytes_of.Given as goal

-- the bytes so far are those of the numbers so far
abbrev pub invariant-loop-j : goal.invariant-loop-j
invariant-loop-j l = take (8 * l.j) l.bytes ≡ spelled (take l.j (with_checksum (numbers_by l.head l.elements l.times)))
