-- Proof of `feed`: pushes the readings of a sensor, in order.
use Rattle.std.proofs.Common.{◌∙◌, arith}
use Rattle.alerts.proofs.feeding.feed.Goals as goal

pub loop-k-preserved : goal.loop-k-preserved
loop-k-preserved g c =
    let so = c.loop-k.invariant in
    record {
      parts = c.push.ensures.parts ∙ so.parts;
      count = omega (arith, c.push.ensures.count, so.count);
      all = omega (arith, c.push.ensures.offered, so.all);
    }
