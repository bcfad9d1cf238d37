-- What the loop keeps in `reduce`: the fold of the elements from index `lo` up to `hi`, `hi` excluded.
use Rattle.std.proofs.Common.{◌≡◌, ◌-◌}
use Rattle.lv_bodies.specs.Body.{fold_of}
use Rattle.lv_edits.specs.Ranges.{slice_of}
use Rattle.lv_summary.specs.Table.{fresh_in}
use Rattle.lv_reduce.proofs.WalkLaws.{IsWalk}
use Rattle.lv_reduce.proofs.reductions.reduce.Given as goal

-- the walk has come so far, with the fold of what is before
abbrev pub invariant-loop-at : goal.invariant-loop-at
invariant-loop-at g l =
    let body = l.body in
    let o = g.B.Body.operations body in
    record {
      walk : IsWalk (fresh_in l.view.table.now) l.lo l.hi l.at l.cells_read l.summaries_read;
      fold : l.value ≡ fold_of o (slice_of l.view.cells.now.journal l.lo l.at);
      within : g.B.Body.is_within body l.value (l.at - l.lo);
    }

-- what is left of the range
abbrev pub decreases-loop-at : goal.decreases-loop-at
decreases-loop-at g l = l.hi - l.at
