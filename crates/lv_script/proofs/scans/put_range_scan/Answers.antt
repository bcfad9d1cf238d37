-- Proof of `put_range_scan`: puts the scan of a range that is within the vector.
use Rattle.lv_script.proofs.EventLaws.{can_fold_slice}
use Rattle.lv_script.proofs.scans.put_range_scan.Goals as goal

pub put_running_scan-requires-clause-can : goal.put_running_scan-requires-clause-can
put_running_scan-requires-clause-can g c = can_fold_slice c.args.live.now.history c.args.asked.now.lo c.args.asked.now.hi c.requires.limits

pub returns-clause-ok : goal.returns-clause-ok
returns-clause-ok g c = rw (c.from-edit.ensures, c.edit.ensures) at c.put_running_scan.ensures.ok

pub returns-clause-fault : goal.returns-clause-fault
returns-clause-fault g c = rw (c.from-edit.ensures, c.edit.ensures) at c.put_running_scan.ensures.fault
