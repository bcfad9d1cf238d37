-- Proof of `tells`: the greatest beginning says whether some beginning adds up to enough.
use Rattle.lv_tree.specs.SoughtLaws.{beginning_told}
use Rattle.lv_tree.proofs.sought.BeginningTestForRuns.tells.Goals as goal

pub returns : goal.returns
returns c = beginning_told c.args.self.now.0
