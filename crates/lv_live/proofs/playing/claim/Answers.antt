-- Proof of `claim`: claims a job for the least node that wants one, and keeps it under its number.
use Rattle.std.proofs.Common.{Some}
use Rattle.lv_live.proofs.WorldLaws.{step_claim, world_claim}
use Rattle.lv_live.proofs.playing.claim.Goals as goal

pub returns-clause-step : goal.returns-clause-step
returns-clause-step g c =
    rw c.keep.ensures.number (rw c.node-node.ensures (rw c.version-version.ensures (rw c.keep.ensures.jobs
    (step_claim (g.B.Body.operations c.args.live.now.body) c.args.live.now c.claim.new.self (Some c.in_ok-job.job) c.args.issued.now.jobs c.in_ok-job.ensures.next c.in_ok-job.ensures.claimed))))

pub returns-clause-world : goal.returns-clause-world
returns-clause-world g c = λ world.
    rw c.keep.ensures.jobs (world_claim (g.B.Body.operations c.args.live.now.body) c.args.live.now c.claim.new.self (Some c.in_ok-job.job) c.args.issued.now.jobs c.in_ok-job.ensures.claimed c.in_ok-job.ensures.body c.in_ok-job.ensures.honest world)
