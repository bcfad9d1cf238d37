-- What the loop keeps in `Series::verdict_of_writes`.
use Rattle.std.proofs.Common.{◌≡◌, ◌-◌, ◌≤◌, drop}
use Rattle.lv_series.specs.Series.{size_of}
use Rattle.lv_series.proofs.WriteLaws.{judged}
use Rattle.lv_series.proofs.series.Series.verdict_of_writes.Given as goal

-- edits are left, and what remains is judged as all are

abbrev pub invariant-loop-k : goal.invariant-loop-k
invariant-loop-k l =
    let h = l.self.held in
    record {
      few : l.k ≤ l.left;
      rest : judged h.first (size_of h) l.left l.indices ≡ judged h.first (size_of h) (l.left - l.k) (drop l.k l.indices);
    }
