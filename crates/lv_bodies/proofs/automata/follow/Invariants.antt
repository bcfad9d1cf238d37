-- What the loop keeps in `follow`: the states reached by the first row, and from there by the second.
use Rattle.std.proofs.Common.{◌≡◌, ℕ, ◌<◌, length, slice_index}
use Rattle.lv_bodies.proofs.automata.follow.Given as goal

-- the states reached so far are those of the second row
abbrev pub invariant-loop-q : goal.invariant-loop-q
invariant-loop-q l = record {
  eight : length l.reached ≡ 8;
  read : (k : ℕ) → k < l.q → slice_index l.reached k ≡ slice_index l.second (slice_index l.first k);
}
