-- What the loop keeps in `place_refused`, which returns the place of the first write that would be refused; 0 if none would be.
use Rattle.lv_series.specs.Series.{size_of}
use Rattle.livevec_c.proofs.SeriesWriteLaws.{AreFreeBefore}
use Rattle.livevec_c.proofs.series_writes.place_refused.Given as goal

-- the writes before are not refused
abbrev pub invariant-loop-place : goal.invariant-loop-place
invariant-loop-place l = AreFreeBefore l.series.held.first (size_of l.series.held) l.left l.place l.indices
