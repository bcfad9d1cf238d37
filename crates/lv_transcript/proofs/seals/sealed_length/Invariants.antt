-- What the loop of `sealed_length` goes down by.
use Rattle.std.proofs.Common.{length}
use Rattle.lv_transcript.proofs.seals.sealed_length.Given as goal

abbrev pub decreases-loop-end : goal.decreases-loop-end
decreases-loop-end l = length l.rest
