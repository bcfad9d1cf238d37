-- What the loop keeps in `sum_before`: the sum of what comes before the place in its parent so far.
use Rattle.std.proofs.Common.{map}
use Rattle.lv_tree.proofs.Groups.{Summing}
use Rattle.lv_tree.proofs.rows.sum_before.Given as goal

abbrev pub invariant-loop-l : goal.invariant-loop-l
invariant-loop-l l = Summing (map (λ r. r.items) l.rows.items) l.end l.l l.place l.sum
