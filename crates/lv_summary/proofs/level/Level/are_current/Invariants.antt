-- What the loop keeps in `Level::are_current`: whether what was delivered for each of eight neighbours, from one on, has the number of the edit that touched it last.
use Rattle.std.proofs.Common.{◌≡◌, ◌+◌, ◌==◌, slice_index}
use Rattle.std.specs.List.{list_all, range_with_len}
use Rattle.lv_summary.proofs.level.Level.are_current.Given as goal

-- the first k of them are
abbrev pub invariant-loop-k : goal.invariant-loop-k
invariant-loop-k g l =
    l.current ≡ list_all (λ k. slice_index l.self.rows.stamps (l.first + k) == slice_index l.self.rows.touched (l.first + k) + 1) (range_with_len 0 l.k)
