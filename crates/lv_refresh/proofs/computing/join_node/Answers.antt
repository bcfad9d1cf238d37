-- Proof of `join_node`.
use Rattle.lv_refresh.proofs.ComputeLaws.{child_is_fresh}
use Rattle.lv_refresh.proofs.computing.join_node.Goals as goal

pub join_all-requires-clause-entries : goal.join_all-requires-clause-entries
join_all-requires-clause-entries g c κs within = λ k small.
    c.in-Some.ensures.entries k small (child_is_fresh (g.B.Body.operations c.args.body.now) c.args.history.now.journal c.args.table.now c.requires.agrees c.args.node k c.requires.above c.requires.ready small)
