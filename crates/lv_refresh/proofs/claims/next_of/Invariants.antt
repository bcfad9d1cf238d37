-- What the loop keeps in `next_of`: the least node of a level that wants a job, and the number of the edit that touched it last, which is claimed with it.
use Rattle.std.proofs.Common.{◌≡◌, ℕ, true, length, sum}
use Rattle.lv_refresh.specs.Inner.{wants_at}
use Rattle.lv_refresh.specs.Marks.{is_marked}
use Rattle.lv_refresh.proofs.claims.next_of.Given as goal

-- no claim was made yet, and each node that wants a job is still hinted at
abbrev pub invariant-loop-number : goal.invariant-loop-number
invariant-loop-number g l = record {
  claimed : l.rows.rows.claimed ≡ l.initial.rows.rows.claimed;
  room : length l.rows.rows.hints ≡ length l.initial.rows.rows.hints;
  hints : (k : ℕ) → wants_at l.table l.level l.rows.rows k ≡ true → is_marked l.rows.rows.hints k ≡ true;
}

abbrev pub decreases-loop-number : goal.decreases-loop-number
decreases-loop-number g l = sum l.rows.rows.hints
