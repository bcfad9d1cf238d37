-- Proof of `push`: pushes a reading, and counts it as accepted or as refused.
use Rattle.std.proofs.Common.{arith}
use Rattle.alerts.proofs.CountingLaws.{counts_none, counts_one}
use Rattle.alerts.proofs.feeding.push.Goals as goal

pub returns-in-Ok-clause-parts : goal.returns-in-Ok-clause-parts
returns-in-Ok-clause-parts g c = (counts_one c.args.fed.now.share c.edit.new.share _ c.edit.result c.in-Ok.field-0 c.edit.ensures.counts c.in-Ok.is).0

pub returns-in-Ok-clause-count : goal.returns-in-Ok-clause-count
returns-in-Ok-clause-count g c = omega (arith, (counts_one c.args.fed.now.share c.edit.new.share _ c.edit.result c.in-Ok.field-0 c.edit.ensures.counts c.in-Ok.is).1)

pub returns-in-Err-clause-parts : goal.returns-in-Err-clause-parts
returns-in-Err-clause-parts g c = (counts_none c.args.fed.now.share c.edit.new.share _ c.edit.result c.in-Err.field-0 c.edit.ensures.counts c.in-Err.is).0

pub returns-in-Err-clause-count : goal.returns-in-Err-clause-count
returns-in-Err-clause-count g c = omega (arith, (counts_none c.args.fed.now.share c.edit.new.share _ c.edit.result c.in-Err.field-0 c.edit.ensures.counts c.in-Err.is).1)
