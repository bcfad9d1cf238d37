-- Proof of `value_of_vector`: a value of a vector, which keeps what it computes by that kind.
use Rattle.livevec_c.proofs.KindAnswers.{answers_value, refuses_value}
use Rattle.std.proofs.Common.{ap}
use Rattle.livevec_c.proofs.by_kind.value_of_vector.Goals as goal

pub returns-in-Ok-clause-answer : goal.returns-in-Ok-clause-answer
returns-in-Ok-clause-answer c =
    answers_value c.args.kind c.args.lo c.args.hi c.args.vector.now c.in-Ok.answer c.shown.result _ c.in-Ok.ensures.ok c.shown.ensures
    (ap (λ values. record { refusal = 0; detail = 0; edit = c.in-Ok.answer.edit; cells = 0; summaries = 0; values = values }) c.shown_values.ensures)

pub returns-in-Err-clause-answer : goal.returns-in-Err-clause-answer
returns-in-Err-clause-answer c =
    refuses_value c.args.kind c.args.lo c.args.hi c.args.vector.now c.in-Err.refusal _ c.in-Err.ensures.err (rw (← c.number.ensures) (rw (← c.detail.ensures) c.not_reduced.ensures))
