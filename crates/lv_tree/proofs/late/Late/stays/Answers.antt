-- Proof of `Late::stays`: what follows a journal follows it whichever edits come.
use Rattle.lv_tree.proofs.FollowLaws.{late_edits}
use Rattle.lv_tree.proofs.late.Late.stays.Goals as goal

pub returns : goal.returns
returns g c edits more late =
    late_edits (g.T.B.Body.operations c.args.self.now.body) edits more c.args.self.now late
