-- Proof of `tells`: the best run says whether some run adds up to enough.
use Rattle.lv_tree.specs.SoughtLaws.{run_told}
use Rattle.lv_tree.proofs.sought.RunOfTestForRuns.tells.Goals as goal

pub returns : goal.returns
returns c = run_told c.args.self.now.0
