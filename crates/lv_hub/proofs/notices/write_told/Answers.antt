-- Proof of `write_told`: writes the lines of a notification.
use Rattle.std.proofs.lemmas.Result.{IfErr-weaker, err_from_is_err_and, on_ok_weaker}
use Rattle.lv_hub.proofs.NoticeLaws.{sent_all, sent_front, told_front, told_writes}
use Rattle.lv_hub.proofs.notices.write_told.Goals as goal

pub returns-in_err-put_all-clause-fault : goal.returns-in_err-put_all-clause-fault
returns-in_err-put_all-clause-fault g c =
    let number = c.told_number-edit.ensures in
    let p = err_from_is_err_and c.from_residual.result c.from_residual.ensures.1 in
    rw (p.1) (told_front c.args.numbers c.args.told.now c.told_number-edit.result number (rw c.deref.ensures.value at c.in_err-put_all.ensures.fault))

pub returns-clause-ok : goal.returns-clause-ok
returns-clause-ok g c =
    let number = c.told_number-edit.ensures in
    on_ok_weaker c.send.result (sent_all (told_writes c.args.numbers c.args.told.now c.told_number-edit.result number (rw c.deref.ensures.value at c.in_ok-put_all.ensures.ok))) c.send.ensures.ok

pub returns-clause-fault : goal.returns-clause-fault
returns-clause-fault g c =
    let number = c.told_number-edit.ensures in
    IfErr-weaker c.send.result _ _ (λ fault fails. sent_front (told_writes c.args.numbers c.args.told.now c.told_number-edit.result number (rw c.deref.ensures.value at c.in_ok-put_all.ensures.ok)) fails.1) c.send.ensures.fault
