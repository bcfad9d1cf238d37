-- Proof of `answer`: answers a command, which is bad unless it is an update, a reduction or a scan.
use Rattle.std.proofs.Common.{Result, Ok, Err, OnOk, IfErr}
use Rattle.lv_lines.proofs.OutputLemmas.{Writes-put}
use Rattle.lv_hub.proofs.replying.answer.Goals as goal

-- the consequences of a success, and of a failure
on_ok : {T E A B : Type 0} (result : Result T E) → OnOk result A → (A → B) → OnOk result B
on_ok (Ok x) holds then = then holds
on_ok (Err e) holds then = holds

if_err : {T E : Type 0} {P Q : E → Type 0} (result : Result T E) → IfErr result P → ((e : E) → P e → Q e) → IfErr result Q
if_err (Ok x) holds then = holds
if_err (Err e) holds then = then e holds

pub returns-in-Scan-clause-ok : goal.returns-in-Scan-clause-ok
returns-in-Scan-clause-ok g c =
    on_ok c.put_scanned.result c.put_scanned.ensures.ok (λ told. (told.0, rw c.in-Scan.is (told.1 c.args.answers.now.items), told.2))

pub returns-in-Scan-clause-fault : goal.returns-in-Scan-clause-fault
returns-in-Scan-clause-fault g c =
    if_err c.put_scanned.result c.put_scanned.ensures.fault (λ fault told. (told.0, told.1, rw c.in-Scan.is (told.2 c.args.answers.now.items), told.3))

pub returns-in-Edit-clause-ok : goal.returns-in-Edit-clause-ok
returns-in-Edit-clause-ok g c =
    let told = c.put_edit.ensures.answer in (told.0, rw c.in-Edit.is (told.1 c.args.answers.now.items), Writes-put _ _ _ _ told.2)

pub returns-in-Reduce-clause-ok : goal.returns-in-Reduce-clause-ok
returns-in-Reduce-clause-ok g c =
    let told = c.put_reduction.ensures.answer in (told.0, rw c.in-Reduce.is told.1, Writes-put _ _ _ _ told.2)
