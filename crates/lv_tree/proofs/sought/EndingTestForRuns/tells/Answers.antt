-- Proof of `tells`: the greatest ending says whether some ending adds up to enough.
use Rattle.lv_tree.specs.SoughtLaws.{ending_told}
use Rattle.lv_tree.proofs.sought.EndingTestForRuns.tells.Goals as goal

pub returns : goal.returns
returns c = ending_told c.args.self.now.0
