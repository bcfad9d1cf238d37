-- What the loop keeps in `outcomes_of`: the outcome of each job, in order, with room made at once.
use Rattle.std.proofs.Common.{◌≡◌, take}
use Rattle.lv_live.proofs.batches.outcomes_of.Given as goal

-- the outcomes of the jobs so far
abbrev pub invariant-loop-job : goal.invariant-loop-job
invariant-loop-job g l = l.outcomes.items ≡ take l.job-index l.jobs
