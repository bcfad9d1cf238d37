-- Proof of `answer`: answers a command.
use Rattle.lv_bodies.specs.Six.{six_operations}
use Rattle.lv_edits.specs.Ranges.{range_refusal}
use Rattle.lv_live.proofs.WorldLaws.{world_settle}
use Rattle.lv_lines.proofs.OutputLemmas.{Writes-put}
use Rattle.lv_script.specs.Script.{reduced_text}
use Rattle.lv_script.proofs.EventLaws.{tells_still}
use Rattle.lv_script.proofs.answers.answer.Goals as goal

pub returns-in-Edit-clause-world : goal.returns-in-Edit-clause-world
returns-in-Edit-clause-world g c = c.put_edit.ensures.world c.args.issued.now.jobs c.requires.world

pub returns-in-Settle-clause-world : goal.returns-in-Settle-clause-world
returns-in-Settle-clause-world g c = c.put_settle.ensures.world c.args.issued.now.jobs c.requires.world

pub returns-in-Forget-clause-world : goal.returns-in-Forget-clause-world
returns-in-Forget-clause-world g c = c.put_forget.ensures.world c.args.issued.now.jobs c.requires.world

pub returns-in-Claim-clause-ok : goal.returns-in-Claim-clause-ok
returns-in-Claim-clause-ok g c =
    let told = c.put_claim.ensures.answer in
    (told.0, rw c.in-Claim.is told.1, Writes-put _ _ _ _ told.2)

pub returns-in-Reduce-clause-ok : goal.returns-in-Reduce-clause-ok
returns-in-Reduce-clause-ok g c =
    let edits = c.args.standing.now.live.history.journal in
    let text = reduced_text edits c.in-Reduce.kind c.in-Reduce.lo c.in-Reduce.hi (range_refusal edits c.in-Reduce.lo c.in-Reduce.hi) in
    (text, rw c.in-Reduce.is (tells_still c.args.standing.now c.put_reduced.new.standing text c.args.issued.now.jobs c.put_reduced.ensures.live c.put_reduced.ensures.queries), Writes-put _ _ _ _ c.put_reduced.ensures.text)

pub returns-in-Reduce-clause-world : goal.returns-in-Reduce-clause-world
returns-in-Reduce-clause-world g c =
    world_settle six_operations c.args.standing.now.live c.put_reduced.new.standing.live c.args.issued.now.jobs c.put_reduced.ensures.live c.requires.world
