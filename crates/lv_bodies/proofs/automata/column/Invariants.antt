-- What the loop keeps in `column`: the states that the table has for a remainder.
use Rattle.std.proofs.Common.{◌≡◌, ℕ, ◌<◌, [], length, slice_index, slice_index_or}
use Rattle.lv_bodies.proofs.automata.column.Given as goal

-- the states reached so far are the table's
abbrev pub invariant-loop-q : goal.invariant-loop-q
invariant-loop-q l = record {
  eight : length l.reached ≡ 8;
  read : (k : ℕ) → k < l.q → slice_index l.reached k ≡ slice_index (slice_index_or l.table k []) l.remainder;
}
