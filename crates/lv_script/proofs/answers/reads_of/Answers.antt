-- Proof of `reads_of`: how many reads a reduction makes, or why its range is rejected.
use Rattle.lv_script.proofs.answers.reads_of.Goals as goal

pub returns : goal.returns
returns c = rw c.live.ensures.value at c.cost.ensures
