-- Proof of `put_recorded_scan`: puts the values of a scan of elements at an edit number.
use Rattle.std.proofs.Common.{◌++◌, ◌∙◌, refl}
use Rattle.std.proofs.lemmas.Result.{err_from_is_err_and}
use Rattle.lv_bodies.specs.Plain.{plain_value}
use Rattle.lv_lines.specs.Texts.{scan_text}
use Rattle.lv_lines.proofs.OutputLemmas.{Writes-put}
use Rattle.lv_script.specs.PlainScript.{scan_by}
use Rattle.lv_hub.proofs.replying.put_recorded_scan.Goals as goal

-- it couldn't be recorded, and nothing was sent
pub returns-in_err-record-clause-fault : goal.returns-in_err-record-clause-fault
returns-in_err-record-clause-fault g c =
    let p = err_from_is_err_and c.from_residual.result c.from_residual.ensures.1 in
    let asked = c.args.asked.now in
    let text = scan_text c.args.number asked.inclusive asked.kind (scan_by (plain_value asked.kind) asked.inclusive c.args.elements.now) in
    rw p.1 (p.2 ∙ c.in_err-record.ensures.fault, record { unsent = c.args.buffer.now.held.now.items ++ text; written = Writes-put _ _ _ _ refl })
