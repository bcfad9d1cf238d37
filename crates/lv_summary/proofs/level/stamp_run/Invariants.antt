-- What the loop keeps in `stamp_run`: notes that summaries of the touched numbers were delivered for so many nodes, from one on.
use Rattle.std.proofs.Common.{◌+◌, Some, slice_index}
use Rattle.lv_summary.specs.Inner.{HasItems}
use Rattle.lv_summary.proofs.level.stamp_run.Given as goal

-- the first k of them are noted
abbrev pub invariant-loop-k : goal.invariant-loop-k
invariant-loop-k l = HasItems l.initial.stamps.items l.stamps.items l.first l.k (λ k. Some (slice_index l.touched (l.first + k) + 1))
