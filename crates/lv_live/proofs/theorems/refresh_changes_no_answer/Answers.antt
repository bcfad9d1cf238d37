-- Proof of `refresh_changes_no_answer`: refresh changes no answer.
use Rattle.std.proofs.Common.{◌∙◌, sym, ap}
use Rattle.lv_live.specs.PlainAnswers.{plain_answers, without_refresh}
use Rattle.lv_live.proofs.RunLaws.{run_is_plain}
use Rattle.lv_live.proofs.theorems.refresh_changes_no_answer.Goals as goal

pub returns : goal.returns
returns g c = λ body limits r next q after events others replies answers run room other other_room edits questions.
    let o = g.B.Body.operations body in
    run_is_plain o limits r next events replies run room
    ∙ ap (λ edits. plain_answers o limits edits (without_refresh events)) edits
    ∙ ap (plain_answers o limits q.edits) questions
    ∙ sym (run_is_plain o limits q after others answers other other_room)
