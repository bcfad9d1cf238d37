-- What the loop keeps in `forget_later`: makes every item of some pieces blank.
use Rattle.std.proofs.Common.{◌≡◌, ℕ, ◌<◌, [], length}
use Rattle.std.specs.List.{slice_index_or}
use Rattle.lv_summary.proofs.late_rows.forget_later.Given as goal

-- there are as many pieces, and those so far have nothing written
abbrev pub invariant-loop-k : goal.invariant-loop-k
invariant-loop-k g l = record { pieces : length l.later.items ≡ length l.initial.later.items; none : (j : ℕ) → j < l.k → slice_index_or l.later.items j [] ≡ [] }
