-- What the loop keeps in `Live::due_blocks`.
use Rattle.std.proofs.Common.{◌≡◌}
use Rattle.lv_live.specs.Batches.{due_jobs}
use Rattle.lv_live.specs.State.{recorded}
use Rattle.lv_live.proofs.live.Live.due_blocks.Given as goal

-- the jobs of the blocks so far
abbrev pub invariant-loop-k : goal.invariant-loop-k
invariant-loop-k g l = l.jobs.items ≡ due_jobs l.fn.self.body (recorded l.fn.self) l.fn.first l.k
