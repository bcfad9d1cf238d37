-- Proof of `wanted`: the number of the edit that touched a node last, if the node wants a job; none if it wants none.
use Rattle.std.proofs.lemmas.Bool.{and_parts}
use Rattle.lv_geometry.specs.Nodes.{is_below, is_node}
use Rattle.lv_refresh.proofs.RowLaws.{row_of_node}
use Rattle.lv_refresh.proofs.wants.wanted.Goals as goal

pub is_claimed-requires-clause-inside : goal.is_claimed-requires-clause-inside
is_claimed-requires-clause-inside g c =
    row_of_node c.args.rows.now.rows c.args.node c.args.table.now.size (and_parts (is_node c.args.node) (is_below c.args.node c.args.table.now.size) c.in-Some.ensures.some.0).1 c.requires
