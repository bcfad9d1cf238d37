-- What the loop keeps in `unhint_subtree`: takes the hints at the 512 blocks of a subtree away.
use Rattle.std.proofs.Common.{◌≡◌, ℕ, ◌*◌, ◌/◌, ◌&&◌, not, length}
use Rattle.lv_refresh.specs.Marks.{is_marked}
use Rattle.lv_refresh.proofs.SubtreeHints.{is_between}
use Rattle.lv_refresh.proofs.claims.unhint_subtree.Given as goal

-- the hints of the words before this one are taken away
abbrev pub invariant-loop-word : goal.invariant-loop-word
invariant-loop-word l = record {
  claimed : l.rows.rows.claimed ≡ l.initial.rows.rows.claimed;
  room : length l.rows.rows.hints ≡ length l.initial.rows.rows.hints;
  hints : (k : ℕ) → is_marked l.rows.rows.hints k ≡ not (is_between (8 * l.fn.number) l.word (k / 64)) && is_marked l.initial.rows.rows.hints k;
}
