-- Proof of `stands_here`: whether contents are those that a whole node has now.
use Rattle.lv_live.proofs.vouching.stands_here.Goals as goal

pub returns-then-node-gt1 : goal.returns-then-node-gt1
returns-then-node-gt1 g c = λ claims. rw c.in-Children.is (c.have_summaries.ensures claims)
