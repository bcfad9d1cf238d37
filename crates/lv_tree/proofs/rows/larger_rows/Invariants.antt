-- What the loop keeps in `larger_rows`: the rows so far have room and the same numbers.
use Rattle.std.proofs.Common.{map}
use Rattle.lv_tree.proofs.Larger.{Enlarging}
use Rattle.lv_tree.proofs.rows.larger_rows.Given as goal

abbrev pub invariant-up : goal.invariant-up
invariant-up l = Enlarging (map (λ r. r.items) l.rows.items) l.room (map (λ r. r.items) l.more.items) l.groups

abbrev pub decreases-up : goal.decreases-up
decreases-up l = l.groups
