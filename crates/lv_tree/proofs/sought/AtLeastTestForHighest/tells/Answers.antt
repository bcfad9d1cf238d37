-- Proof of `tells`: the highest element says whether some element is at least so great.
use Rattle.lv_tree.specs.SoughtLaws.{at_least_told}
use Rattle.lv_tree.proofs.sought.AtLeastTestForHighest.tells.Goals as goal

pub returns : goal.returns
returns c = at_least_told c.args.self.now.0
