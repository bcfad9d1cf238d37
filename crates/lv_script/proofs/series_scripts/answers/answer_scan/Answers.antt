-- Proof of `answer_scan`: a scan of a range, or why the range is rejected.
use Rattle.std.proofs.Common.{◌≡◌, List, ap₂, subst, IfErr, OnOk}
use Rattle.lv_bodies.specs.Plain.{plain_value}
use Rattle.lv_lines.specs.Output.{Puts, PutsFront}
use Rattle.lv_lines.specs.Texts.{scan_text}
use Rattle.lv_lines.specs.declared.fault.Fault.TheVariants.{WriteFault}
use Rattle.lv_standing.specs.declared.queries.Query.{Query}
use Rattle.lv_script.specs.Inside.{Told, known_of}
use Rattle.lv_script.specs.PlainScript.{scan_by}
use Rattle.lv_script.specs.declared.long_commands.LongCommand.TheVariants.{Scan}
use Rattle.lv_script.proofs.EventLaws.{put_front, put_whole}
use Rattle.lv_script.proofs.KnownLaws.{scan_told}
use Rattle.lv_script.proofs.series_scripts.answers.answer_scan.Goals as goal

pub returns-in-Ok-clause-ok : goal.returns-in-Ok-clause-ok
returns-in-Ok-clause-ok g c =
    let s = c.args.series.now in
    let inclusive = c.args.inclusive in
    let kind = c.args.kind in
    let put = Puts g.W.Write.contents c.args.buffer.now c.put_running_scan.new.buffer in
    let text = ap₂ (λ edit xs. scan_text edit inclusive kind (scan_by (plain_value kind) inclusive xs)) c.edits.ensures c.in-Ok.ensures.ok.1 in
    put_whole (λ reply. (qs : List Query) → Told (known_of s qs) (Scan inclusive kind c.args.lo c.args.hi) reply (known_of s qs)) put _ (scan_told s kind c.args.lo c.args.hi inclusive c.in-Ok.ensures.ok.0)
    c.put_running_scan.result (subst (λ text. OnOk c.put_running_scan.result (put text)) text c.put_running_scan.ensures.ok)

pub returns-in-Ok-clause-fault : goal.returns-in-Ok-clause-fault
returns-in-Ok-clause-fault g c =
    let s = c.args.series.now in
    let inclusive = c.args.inclusive in
    let kind = c.args.kind in
    let front = PutsFront g.W.Write.contents c.args.buffer.now c.put_running_scan.new.buffer in
    let text = ap₂ (λ edit xs. scan_text edit inclusive kind (scan_by (plain_value kind) inclusive xs)) c.edits.ensures c.in-Ok.ensures.ok.1 in
    put_front (λ reply. (qs : List Query) → Told (known_of s qs) (Scan inclusive kind c.args.lo c.args.hi) reply (known_of s qs)) front _ (scan_told s kind c.args.lo c.args.hi inclusive c.in-Ok.ensures.ok.0)
    c.put_running_scan.result (subst (λ text. IfErr c.put_running_scan.result (λ fault. (fault ≡ WriteFault) × front text)) text c.put_running_scan.ensures.fault)
