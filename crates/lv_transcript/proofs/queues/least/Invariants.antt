-- What the loop keeps in `least`: which queue has the answer of the least edit, and that edit.
use Rattle.std.proofs.Common.{take}
use Rattle.lv_transcript.specs.LeastFirst.{FindsLeast}
use Rattle.lv_transcript.proofs.queues.least.Given as goal

-- it was found among the queues so far
abbrev pub invariant-loop-index : goal.invariant-loop-index
invariant-loop-index l = FindsLeast (take l.index l.queues) l.found
