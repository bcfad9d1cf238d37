-- What the loop keeps in `fill`, which puts the bytes of so many numbers at the start of a buffer.
use Rattle.std.proofs.Common.{◌≡◌, ◌*◌, drop, length, take}
use Rattle.lv_saved.specs.Saved.{numbers_by, with_checksum}
use Rattle.lv_shards.specs.Bytes.{spelled}
use Rattle.lv_saved.proofs.pieces.fill.Given as goal

-- the bytes of the numbers so far come before the rest of the buffer
abbrev pub invariant-loop-k : goal.invariant-loop-k
invariant-loop-k l = record {
  many : length l.into ≡ length l.initial.into;
  so_far : take (8 * l.k) l.into ≡ spelled (take l.k (drop l.first (with_checksum (numbers_by l.head l.elements l.times))));
  rest : drop (8 * l.k) l.into ≡ drop (8 * l.k) l.initial.into;
}
