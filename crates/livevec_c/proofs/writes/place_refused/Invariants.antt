-- What the loop keeps in `place_refused`, which returns the place of the first write that would be refused for another reason than out of memory; 0
-- if none would be.
use Rattle.livevec_c.proofs.WrittenLaws.{AreFreeBefore}
use Rattle.livevec_c.proofs.writes.place_refused.Given as goal

-- the writes before are not refused
abbrev pub invariant-loop-place : goal.invariant-loop-place
invariant-loop-place l = AreFreeBefore l.left l.size l.place l.indices
