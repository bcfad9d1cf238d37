-- What the loop keeps in `join_all`: the join of eight summaries, which are those of a node's children.
use Rattle.lv_refresh.proofs.ComputeLaws.{Joins}
use Rattle.lv_refresh.proofs.computing.join_all.Given as goal

-- the summaries of the first k children were joined
abbrev pub invariant-loop-k : goal.invariant-loop-k
invariant-loop-k g l =
    Joins (g.B.Body.operations l.body) l.history.journal l.fn.node l.k l.sum
