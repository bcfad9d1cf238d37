-- What the loop keeps in `take_in`: the last leaf is in the rows so far.
use Rattle.std.proofs.Common.{map}
use Rattle.lv_tree.proofs.Groups.{Taking}
use Rattle.lv_tree.proofs.rows.take_in.Given as goal

abbrev pub invariant-loop-l : goal.invariant-loop-l
invariant-loop-l l = Taking l.leaves.items (map (λ r. r.items) l.fn.rows.items) (map (λ r. r.items) l.rows.items) l.l l.place l.sum
