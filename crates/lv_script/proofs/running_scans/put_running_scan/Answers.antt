-- Proof of `put_running_scan`: the scan of elements by a kind, at an edit.
use Rattle.std.proofs.Common.{◌++◌, sym, ap, ◌∙◌}
use Rattle.std.proofs.lemmas.Result.{IfErr-weaker, on_ok_weaker}
use Rattle.lv_bodies.specs.Plain.{plain_value}
use Rattle.lv_lines.specs.Texts.{scan_head}
use Rattle.lv_lines.proofs.OutputLemmas.{Writes-put, Writes-trans, WritesFront-after}
use Rattle.lv_script.proofs.ScanLemmas.{length-scan}
use Rattle.lv_script.proofs.running_scans.put_running_scan.Goals as goal

pub returns-clause-ok : goal.returns-clause-ok
returns-clause-ok g c =
    let count = length-scan (plain_value c.args.kind) c.args.inclusive (g.E.Elements.list c.args.elements.now) in
    let text = c.put_scan_head.ensures.text ∙ ap (λ n. c.args.buffer.now.held.now.items ++ scan_head c.args.edit c.args.inclusive c.args.kind n) (c.count.ensures ∙ sym count) in
    on_ok_weaker c.put_values.result (Writes-trans (Writes-put _ _ _ _ text)) c.put_values.ensures.ok

pub returns-clause-fault : goal.returns-clause-fault
returns-clause-fault g c =
    let count = length-scan (plain_value c.args.kind) c.args.inclusive (g.E.Elements.list c.args.elements.now) in
    let text = c.put_scan_head.ensures.text ∙ ap (λ n. c.args.buffer.now.held.now.items ++ scan_head c.args.edit c.args.inclusive c.args.kind n) (c.count.ensures ∙ sym count) in
    IfErr-weaker c.put_values.result _ _ (λ fault fails. (fails.0, WritesFront-after (Writes-put _ _ _ _ text) fails.1)) c.put_values.ensures.fault.fails
