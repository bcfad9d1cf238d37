-- What the loop keeps in `scan_into`: puts the scan of some elements, continued from a summary, where its values belong: from an index on.
use Rattle.std.proofs.Common.{◌≡◌, ◌+◌, ◌++◌, ◌^◌, ◌≤◌, ℕ, length, take}
use Rattle.lv_reduce.specs.Running.{reached, scan_from}
use Rattle.lv_reduce.proofs.parallel.slices.scan_into.Given as goal

-- the scan of the elements so far, behind what was there, and what they lead to, which may take the rest
abbrev pub invariant-loop-k : goal.invariant-loop-k
invariant-loop-k g l =
    let body = l.body in
    let o = g.B.Body.operations body in
    let front = take l.k l.xs in
    record {
      sum : l.sum ≡ reached o l.fn.before front;
      values : take (l.from + l.k) l.values ≡ take l.from l.initial.values ++ scan_from l.inclusive o l.fn.before front;
      can : (n : ℕ) × g.B.Body.is_within body l.sum (n + l.k) × (n + length l.xs ≤ 2 ^ 20);
      len : length l.values ≡ length l.initial.values;
    }
