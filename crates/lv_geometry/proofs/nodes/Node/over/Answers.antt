-- Proof of `Node::over`: the node of a level that has index `i`.
use Rattle.lv_geometry.proofs.NodeLaws.{node_by_shift}
use Rattle.lv_geometry.proofs.nodes.Node.over.Goals as goal

pub returns : goal.returns
returns c = node_by_shift c.args.i c.args.level
