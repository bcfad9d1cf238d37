-- Proof of `Hub::scan`: one of the two scans, of a copy that is made under the lock.
use Rattle.std.proofs.Common.{rules}
use Rattle.lv_hub.proofs.StretchLaws.{no_scan_number, scan_number, told_refused, told_scanned}
use Rattle.lv_hub.proofs.hubs.Hub.scan.Goals as goal

pub returns-in_err-stretch-clause-told : goal.returns-in_err-stretch-clause-told
returns-in_err-stretch-clause-told g c =
    told_refused g.B.Body.operations _ _ _ _ _ _ _ c.in_err-stretch.field-0.0 c.from_residual.result (c.in_err-stretch.ensures.told) (search rules)

pub returns-in_err-stretch-clause-number : goal.returns-in_err-stretch-clause-number
returns-in_err-stretch-clause-number g c = no_scan_number c.in_err-stretch.field-0.0 c.from_residual.result g.N.Naming.limits _ (search rules)

pub returns-clause-told : goal.returns-clause-told
returns-clause-told g c =
    told_scanned g.B.Body.operations _ _ _ _ _ _ _ c.in_ok-stretch.stretch c.scan.result (c.in_ok-stretch.ensures.told) c.scan.ensures.edit c.scan.ensures.values c.scan.ensures.err

pub returns-clause-number : goal.returns-clause-number
returns-clause-number g c = scan_number g.N.Naming.limits _ c.in_ok-stretch.stretch c.scan.result (c.in_ok-stretch.ensures.number) c.scan.ensures.edit
