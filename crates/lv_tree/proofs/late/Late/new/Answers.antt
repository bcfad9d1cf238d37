-- Proof of `Late::new`: no leaves follow no edits.
use Rattle.lv_tree.proofs.FollowLaws.{follows_none}
use Rattle.lv_tree.proofs.late.Late.new.Goals as goal

pub returns-clause-late : goal.returns-clause-late
returns-clause-late g c =
    follows_none (g.T.B.Body.operations (g.T.Tree.by c.new.result)) (g.T.Tree.sums c.new.result) c.new.ensures.sums
