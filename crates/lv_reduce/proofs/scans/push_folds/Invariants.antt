-- What the loop keeps in `push_folds`: puts the scan of some elements, continued from a summary, behind the values that are there, and returns
-- the fold that it reaches.
use Rattle.std.proofs.Common.{◌≡◌, ◌+◌, ◌^◌, ◌≤◌, ◌++◌, ℕ, length, take, vec_capacity, vec_len}
use Rattle.lv_reduce.specs.Running.{reached, scan_from}
use Rattle.lv_reduce.proofs.scans.push_folds.Given as goal

-- the scan of the elements so far comes behind the values that were there, and the fold that it reaches may take in the rest
abbrev pub invariant-loop-x : goal.invariant-loop-x
invariant-loop-x g l =
    let body = l.body in
    let o = g.B.Body.operations body in
    let front = take l.x-index l.xs in
    record {
      sum : l.sum ≡ reached o l.fn.before front;
      values : l.values.items ≡ l.initial.values.items ++ scan_from l.inclusive o l.fn.before front;
      can : (n : ℕ) × g.B.Body.is_within body l.sum (n + l.x-index) × (n + length l.xs ≤ 2 ^ 20);
      count : vec_len l.values ≡ vec_len l.initial.values + l.x-index;
      capacity : vec_capacity l.values ≡ vec_capacity l.initial.values;
    }
