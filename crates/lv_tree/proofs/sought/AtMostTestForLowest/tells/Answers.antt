-- Proof of `tells`: the lowest element says whether some element is at most so great.
use Rattle.lv_tree.specs.SoughtLaws.{at_most_told}
use Rattle.lv_tree.proofs.sought.AtMostTestForLowest.tells.Goals as goal

pub returns : goal.returns
returns c = at_most_told c.args.self.now.0
