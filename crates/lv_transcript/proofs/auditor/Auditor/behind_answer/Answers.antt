-- Proof of `Auditor::behind_answer`: the stage after a line that comes after an answer.
use Rattle.std.proofs.Common.{inr}
use Rattle.lv_transcript.specs.Auditing.{state_of}
use Rattle.lv_transcript.proofs.AuditLines.{Becomes-at_answers, Becomes-at_edits}
use Rattle.lv_transcript.proofs.auditor.Auditor.behind_answer.Goals as goal

pub returns-then-self-clause-stage : goal.returns-then-self-clause-stage
returns-then-self-clause-stage c =
    let self = c.args.self.now in
    Becomes-at_edits c.args.number (state_of self.mixed self.heading self.stage self.edits self.replay.edit) _ c.args.line.now (inr (c.if-self.true, c.requires.stage)) c.requires.short c.edit_or_later.ensures.stage

pub returns-clause-stage : goal.returns-clause-stage
returns-clause-stage c =
    let self = c.args.self.now in
    Becomes-at_answers c.args.number (state_of self.mixed self.heading self.stage self.edits self.replay.edit) _ c.args.line.now c.if-self.false c.requires.stage c.requires.short c.answer_or_last.ensures.stage
