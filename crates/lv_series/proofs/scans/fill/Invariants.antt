-- What the loop keeps in `fill`.
use Rattle.std.proofs.Common.{◌≡◌, length, map, take}
use Rattle.std.specs.List.{range_with_len}
use Rattle.lv_series.specs.Series.{running_fold}
use Rattle.lv_series.proofs.ScanSteps.{fold_on}
use Rattle.lv_series.proofs.scans.fill.Given as goal

-- the fold of the elements so far, and the values that were put

abbrev pub invariant-loop-k : goal.invariant-loop-k
invariant-loop-k g l =
    let o = g.B.Body.operations l.body in
    record {
      sum : l.sum ≡ fold_on o l.fn.before (take l.k l.elements);
      values : take l.k l.into ≡ map (running_fold l.inclusive o l.fn.before l.elements) (range_with_len 0 l.k);
      len : length l.into ≡ length l.elements;
    }
