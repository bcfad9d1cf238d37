-- What the loop keeps in `numbers_in`: the numbers whose bytes come first.
use Rattle.std.proofs.Common.{◌≡◌, ℕ, ◌<◌, length, slice_index}
use Rattle.lv_shards.specs.Bytes.{number_in}
use Rattle.lv_shards.proofs.numbers.numbers_in.Given as goal

-- the numbers read so far
abbrev pub invariant-loop-j : goal.invariant-loop-j
invariant-loop-j l = record {
  many : length l.numbers ≡ 22;
  read : (k : ℕ) → k < l.j → slice_index l.numbers k ≡ number_in l.bytes k;
}
