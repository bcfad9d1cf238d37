-- What the loop keeps in `join_children`: the join of the summaries of a whole node's children, from left to right.
use Rattle.lv_refresh.proofs.ComputeLaws.{Joins}
use Rattle.lv_refresh.proofs.computing.join_children.Given as goal

-- the summaries of the first k children were joined
abbrev pub invariant-loop-k : goal.invariant-loop-k
invariant-loop-k g l =
    Joins (g.B.Body.operations l.body) l.history.journal l.node l.k l.sum
