-- Proof of `a_script_has_one_text`: if memory is never wanted, a script has one text.
use Rattle.std.proofs.Common.{sym, subst}
use Rattle.lv_lines.specs.Replies.{Answered}
use Rattle.lv_script.specs.OneText.{StepWithRoom}
use Rattle.lv_script.proofs.OneTextLaws.{lines_one, one_beginning}
use Rattle.lv_script.proofs.laws.a_script_has_one_text.Goals as goal

pub returns : goal.returns
returns c = λ limits first other last end lines text told begins started answered replied.
    (lines_one first last end 1 lines text told answered
    (subst (λ s. Answered StepWithRoom s 1 lines told end) (sym (one_beginning limits first other begins started)) replied)).0
