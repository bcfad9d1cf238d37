-- What the loop keeps in `add_in`: it was added in the rows so far.
use Rattle.std.proofs.Common.{map}
use Rattle.lv_tree.proofs.Groups.{Adding}
use Rattle.lv_tree.proofs.rows.add_in.Given as goal

abbrev pub invariant-loop-l : goal.invariant-loop-l
invariant-loop-l l = Adding l.leaf l.more (map (λ r. r.items) l.fn.rows.items) (map (λ r. r.items) l.rows.items) l.l l.place
