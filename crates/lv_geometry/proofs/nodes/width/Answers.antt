-- Proof of `width`: how many indices a node of a level has.
use Rattle.lv_geometry.proofs.NodeLaws.{width_by_shift}
use Rattle.lv_geometry.proofs.nodes.width.Goals as goal

pub returns : goal.returns
returns c = width_by_shift c.args.level c.requires
