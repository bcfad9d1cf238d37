-- What the loop keeps in `spell`: numbers by their bytes.
use Rattle.std.proofs.Common.{◌≡◌, ◌*◌, length, take}
use Rattle.lv_shards.specs.Bytes.{spelled}
use Rattle.lv_shards.proofs.numbers.spell.Given as goal

-- the numbers so far by their bytes
abbrev pub invariant-loop-j : goal.invariant-loop-j
invariant-loop-j l = record {
  many : length l.bytes ≡ 176;
  so_far : take (8 * l.j) l.bytes ≡ spelled (take l.j l.numbers);
}
