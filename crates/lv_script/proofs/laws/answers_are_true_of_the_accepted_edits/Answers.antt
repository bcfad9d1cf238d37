-- Proof of `answers_are_true_of_the_accepted_edits`: replies agree with the accepted updates, even if memory runs out.
use Rattle.std.proofs.Common.{subst}
use Rattle.lv_lines.specs.Replies.{Answered}
use Rattle.lv_script.specs.PlainRuns.{TrueStep}
use Rattle.lv_script.specs.PlainScript.{start}
use Rattle.lv_script.proofs.PlainRunLaws.{answered_limits, answered_true, refused_keeps}
use Rattle.lv_script.proofs.laws.answers_are_true_of_the_accepted_edits.Goals as goal

pub returns-clause-answers : goal.returns-clause-answers
returns-clause-answers c = λ limits last lines text answered.
    subst (λ bounds. Answered (TrueStep bounds last.edits) tt 1 lines text tt) (answered_limits (start limits) last 1 lines text answered) (answered_true (start limits) last 1 lines text answered)

pub returns-clause-refused : goal.returns-clause-refused
returns-clause-refused c = refused_keeps
