-- Proof of `reduce_six`: a reduction of a vector by all six kinds.
use Rattle.livevec_c.proofs.reads.reduce_six.Goals as goal

pub returns : goal.returns
returns c = (c.reduce.result, c.reduction_answer.ensures, c.keeps.ensures.limits, c.reduce.ensures.answer)
