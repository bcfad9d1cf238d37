-- What the loop keeps in `are_rising`: whether times do not fall.
use Rattle.lv_saved.proofs.RiseLaws.{RisesBelow}
use Rattle.lv_saved.proofs.rising.are_rising.Given as goal

-- the times so far do not fall
abbrev pub invariant-loop-k : goal.invariant-loop-k
invariant-loop-k l = RisesBelow l.times l.k
