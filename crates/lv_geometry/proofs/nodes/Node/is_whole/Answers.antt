-- Proof of `Node::is_whole`: whether a node is of a level that summaries are kept for, and all its indices are below a size.
use Rattle.std.proofs.Common.{◌≤◌, ◌&&◌, ap, arith, sym, ◌∙◌}
use Rattle.lv_geometry.specs.Nodes.{is_below}
use Rattle.lv_geometry.proofs.NodeLaws.{below_by_shift, node_of_level}
use Rattle.lv_geometry.proofs.nodes.Node.is_whole.Goals as goal

pub returns : goal.returns
returns c =
    let low : 1 ≤ c.args.self.level = omega arith in
    below_by_shift c.args.self c.args.size
    ∙ ap (λ member. member && is_below c.args.self c.args.size) (sym (node_of_level c.args.self low c.if-self-gt6.false))
