-- What the loop keeps in `add_behind`: it was added to those so far that are behind.
use Rattle.std.proofs.Common.{◌≡◌, ◌⊎◌, ℕ, ◌+◌, ◌%◌, ◌^◌, ◌<◌, ◌≤◌, get_or, length}
use Rattle.lv_tree.proofs.rows.add_behind.Given as goal

abbrev pub invariant-loop-k : goal.invariant-loop-k
invariant-loop-k l = record {
  size : length l.row.items ≡ length l.fn.row.items;
  behind : (j : ℕ) → l.place < j → j < l.k → get_or l.row.items j 0 ≡ (get_or l.fn.row.items j 0 + l.more) % 2 ^ 64;
  others : (j : ℕ) → (j ≤ l.place) ⊎ (l.k ≤ j) → get_or l.row.items j 0 ≡ get_or l.fn.row.items j 0;
}
