-- Proof of `answer_scan`: answers a scan.
use Rattle.std.proofs.Common.{◌∙◌, List, sym}
use Rattle.lv_bodies.specs.Six.{SixSummary}
use Rattle.lv_bodies.specs.declared.sixes.Six.{Six}
use Rattle.lv_refresh.specs.Carried.{Carried}
use Rattle.lv_lines.specs.Output.{Puts, PutsFront}
use Rattle.lv_script.specs.Script.{TellsScan}
use Rattle.lv_script.specs.Scripted.{state_of}
use Rattle.lv_script.proofs.EventLaws.{put_front, put_whole, tells_scan}
use Rattle.lv_script.proofs.scans.answer_scan.Goals as goal

pub returns-in-None-clause-ok : goal.returns-in-None-clause-ok
returns-in-None-clause-ok g c =
    let s = c.args.standing.now in
    let asked = c.args.asked.now in
    let granted = rw c.live-live.ensures.value at (sym c.refusal_of.ensures.value ∙ c.in-None.is) in
    put_whole (λ text. (jobs : List (Carried Six SixSummary)) → TellsScan (state_of s jobs) asked.inclusive asked.kind asked.lo asked.hi text (state_of s jobs))
    (Puts g.W.Write.contents c.args.buffer.now c.put_range_scan.new.buffer) _ (λ jobs. tells_scan s asked.inclusive asked.kind asked.lo asked.hi jobs granted)
    c.put_range_scan.result (rw c.live-live.ensures.value at c.put_range_scan.ensures.ok)

pub returns-in-None-clause-fault : goal.returns-in-None-clause-fault
returns-in-None-clause-fault g c =
    let s = c.args.standing.now in
    let asked = c.args.asked.now in
    let granted = rw c.live-live.ensures.value at (sym c.refusal_of.ensures.value ∙ c.in-None.is) in
    put_front (λ text. (jobs : List (Carried Six SixSummary)) → TellsScan (state_of s jobs) asked.inclusive asked.kind asked.lo asked.hi text (state_of s jobs))
    (PutsFront g.W.Write.contents c.args.buffer.now c.put_range_scan.new.buffer) _ (λ jobs. tells_scan s asked.inclusive asked.kind asked.lo asked.hi jobs granted)
    c.put_range_scan.result (rw c.live-live.ensures.value at c.put_range_scan.ensures.fault)
