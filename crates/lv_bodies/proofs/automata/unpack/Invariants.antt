-- What the loop keeps in `unpack`: the eight states in these bits.
use Rattle.std.proofs.Common.{◌≡◌, ℕ, ◌*◌, ◌/◌, ◌%◌, ◌^◌, ◌<◌, length, slice_index}
use Rattle.lv_bodies.proofs.automata.unpack.Given as goal

-- the states read so far are those of their bits
abbrev pub invariant-loop-q : goal.invariant-loop-q
invariant-loop-q l = record {
  eight : length l.states ≡ 8;
  read : (k : ℕ) → k < l.q → slice_index l.states k ≡ l.bits / 2 ^ (3 * k) % 8;
}
