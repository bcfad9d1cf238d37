-- What the loop keeps in `follow_table`: the states that the table has for those of a row.
use Rattle.std.proofs.Common.{◌≡◌, ℕ, ◌<◌, length, map, slice_index}
use Rattle.lv_bodies.proofs.automata.follow_table.Given as goal

-- the states reached so far are those of the table
abbrev pub invariant-loop-q : goal.invariant-loop-q
invariant-loop-q l = record {
  eight : length l.reached ≡ 8;
  read : (k : ℕ) → k < l.q → slice_index l.reached k ≡ slice_index (map (λ row. slice_index row l.remainder) l.table) (slice_index l.states k);
}
