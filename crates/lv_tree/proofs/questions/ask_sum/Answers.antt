-- Proof of `ask_sum`: the answer by sums.
use Rattle.std.proofs.Common.{sym}
use Rattle.lv_tree.proofs.AnswerLaws.{sum_is_answer}
use Rattle.lv_tree.proofs.questions.ask_sum.Goals as goal

pub returns-in-None-clause-ok : goal.returns-in-None-clause-ok
returns-in-None-clause-ok c table =
    sum_is_answer table c.args.cells.now.journal c.args.lo c.args.hi c.edit-edit.result c.sum_of-sum.result (sym c.in-None.ensures.value) c.edit-edit.ensures.value c.sum_of-sum.ensures.value
