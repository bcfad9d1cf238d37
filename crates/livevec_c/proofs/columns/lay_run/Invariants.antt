-- What the loop keeps in `lay_run`, which puts the cells of the scan of some elements into a column, from a place on.
use Rattle.std.proofs.Common.{◌≡◌, ◌+◌, ◌++◌, ◌^◌, ◌≤◌, ℕ, length, map, slice_range, take}
use Rattle.lv_reduce.specs.Running.{reached, scan_from}
use Rattle.livevec_c.proofs.columns.lay_run.Given as goal

-- the cells of the scan of the elements so far, after what was there, and the summary that they lead to, which may take the rest
abbrev pub invariant-loop-k : goal.invariant-loop-k
invariant-loop-k g l =
    let body = l.body in
    let o = g.B.Body.operations body in
    let front = slice_range l.xs 0 l.k in
    record {
      sum : l.sum ≡ reached o l.fn.before front;
      cells : take (l.from + l.k) l.column ≡ take l.from l.initial.column ++ map g.B.Celled.cell_of (scan_from l.inclusive o l.fn.before front);
      can : (n : ℕ) × g.B.Body.is_within body l.sum (n + l.k) × (n + length l.xs ≤ 2 ^ 62);
      len : length l.column ≡ length l.initial.column;
    }
