-- Proof of `write_answer`: writes the line of an answer after what is held.
use Rattle.std.proofs.Common.{List, ℕ, [], ◌∷◌, ◌++◌, ap, ◌∙◌, append_assoc}
use Rattle.lv_lines.specs.Texts.{shown_text}
use Rattle.lv_lines.proofs.OutputLemmas.{Writes-put, Writes-trans}
use Rattle.lv_transcript.specs.Transcript.{question_text}
use Rattle.lv_transcript.proofs.transcript_writer.write_answer.Goals as goal

pub returns-clause-ok : goal.returns-clause-ok
returns-clause-ok g c =
    let held = c.make_room.new.self.held.now.items in
    let answer = c.args.answer in
    let question = question_text answer.edit answer.kind answer.lo answer.hi in
    let value = shown_text answer.value in
    let line = c.put_shown.ensures.text ∙ ap (λ (xs : List ℕ). xs ++ value) c.put_question.ensures.text ∙ append_assoc held question value in
    let all = c.put.ensures.items ∙ ap (λ (xs : List ℕ). xs ++ 10 ∷ []) line ∙ append_assoc held (question ++ value) (10 ∷ []) in
    Writes-trans c.in_ok-make_room.ensures.ok (Writes-put _ _ _ _ all)
