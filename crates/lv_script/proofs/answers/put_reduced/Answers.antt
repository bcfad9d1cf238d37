-- Proof of `put_reduced`: puts the value of a kind over a range, or the error for the range.
use Rattle.std.proofs.Common.{◌++◌, ◌∙◌, ap}
use Rattle.lv_lines.specs.Texts.{answer_text}
use Rattle.lv_script.proofs.EventLaws.{reduced_ok}
use Rattle.lv_script.proofs.answers.put_reduced.Goals as goal

pub returns-in-Ok-clause-text : goal.returns-in-Ok-clause-text
returns-in-Ok-clause-text c =
    let edits = c.args.standing.now.live.history.journal in
    let is = c.in-Ok.ensures.ok in
    c.put_answer.ensures.text ∙ ap (λ n. c.args.held.now.items ++ answer_text n c.args.kind c.in-Ok.answered.value) c.into.ensures
    ∙ ap (λ text. c.args.held.now.items ++ text) (reduced_ok edits c.args.kind c.args.lo c.args.hi c.in-Ok.answered.edit c.in-Ok.answered.value is.granted is.edit is.value)
