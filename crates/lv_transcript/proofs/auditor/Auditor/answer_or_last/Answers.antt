-- Proof of `Auditor::answer_or_last`: the stage after a line that is not that of an edit.
use Rattle.std.proofs.Common.{refl, inl, inr, sym, ◌∙◌, true≢false}
use Rattle.lv_transcript.specs.Auditing.{IsLast, state_of}
use Rattle.lv_transcript.proofs.AuditLines.{Becomes-answer, no_form_later, none_later}
use Rattle.lv_transcript.proofs.auditor.Auditor.answer_or_last.Goals as goal

pub returns-in-Some-clause-stage : goal.returns-in-Some-clause-stage
returns-in-Some-clause-stage c =
    let self = c.args.self.now in
    let old = state_of self.mixed self.heading self.stage self.edits self.replay.edit in
    let read = c.in-Some.ensures.answer in
    rw (c.take_answer.ensures.edits, c.take_answer.ensures.heading)
    (Becomes-answer c.args.number old c.args.line.now c.in-Some.value.now c.in-Some.question c.take_answer.result c.take_answer.new.self.replay.edit c.requires read.0 read.1
    c.take_answer.ensures.answer)

pub returns-in-None-clause-stage : goal.returns-in-None-clause-stage
returns-in-None-clause-stage c =
    let self = c.args.self.now in
    let old = state_of self.mixed self.heading self.stage self.edits self.replay.edit in
    let other : IsLast self.heading c.args.line.now → ⊥ = λ last. true≢false (sym (c.is_last.ensures.1 last) ∙ c.if-is_last.false) in
    inr (inl ((refl, λ form. no_form_later old c.args.line.now other c.in-None.ensures.answer form), refl, refl, λ next taken. none_later old next c.args.line.now other c.in-None.ensures.answer taken))
