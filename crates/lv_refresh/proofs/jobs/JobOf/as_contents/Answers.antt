-- Proof of `JobOf::as_contents`: what the summary is computed from, by reference.
use Rattle.std.proofs.Common.{ap}
use Rattle.lv_refresh.proofs.jobs.JobOf.as_contents.Goals as goal

pub returns : goal.returns
returns g c =
    record {
      value = ap (λ job. job.contents) c.self.view_is;
      can_fold = rw (← c.self.view_is) c.self.invariant.1;
      member = rw (← c.self.view_is) c.self.invariant.0;
    }
