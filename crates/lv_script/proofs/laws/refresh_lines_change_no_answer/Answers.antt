-- Proof of `refresh_lines_change_no_answer`: lines of refresh and of cost change no answer: two scripts with the same edits and queries, in order.
use Rattle.std.proofs.Common.{[], subst, sym}
use Rattle.lv_lines.specs.Replies.{Answered}
use Rattle.lv_script.specs.PlainRuns.{AnswerStep, asked_in, plain_answers}
use Rattle.lv_script.specs.PlainScript.{start}
use Rattle.lv_script.proofs.PlainRunLaws.{room_answers}
use Rattle.lv_script.proofs.laws.refresh_lines_change_no_answer.Goals as goal

pub returns : goal.returns
returns c = λ limits last end lines others text told answered never replied too same. (
  plain_answers (start limits) (asked_in lines),
  room_answers (start limits) last 1 lines text answered never,
  subst (λ asked. Answered AnswerStep (plain_answers (start limits) asked) 1 others told []) (sym same) (room_answers (start limits) end 1 others told replied too),
)
