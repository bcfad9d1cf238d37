-- What the loop keeps in `fold_on`: a fold that is continued over the elements of a slice.
use Rattle.std.proofs.Common.{◌≡◌, ◌+◌, ◌^◌, ◌≤◌, ℕ, length, take}
use Rattle.lv_reduce.specs.Running.{reached}
use Rattle.lv_reduce.proofs.rows.fold_on.Given as goal

-- what the elements so far lead to, which may take the rest
abbrev pub invariant-loop-x : goal.invariant-loop-x
invariant-loop-x g l =
    let body = l.body in
    record {
      sum : l.sum ≡ reached (g.B.Body.operations body) l.fn.before (take l.x-index l.xs);
      can : (n : ℕ) × g.B.Body.is_within body l.sum (n + l.x-index) × (n + length l.xs ≤ 2 ^ 20);
    }
