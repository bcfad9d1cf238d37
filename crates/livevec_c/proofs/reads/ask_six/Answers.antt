-- Proof of `ask_six`: a reduction of a vector by all six kinds, each by its own tree.
use Rattle.std.proofs.Common.{refl, ap, ◌∙◌}
use Rattle.lv_bodies.specs.Automata.{table_of}
use Rattle.lv_bodies.specs.Body.{fold_of}
use Rattle.lv_bodies.specs.Six.{six_operations_by}
use Rattle.lv_edits.specs.Ranges.{slice_of}
use Rattle.livevec_c.specs.Answers.{spread}
use Rattle.livevec_c.specs.Behind.{State}
use Rattle.livevec_c.proofs.AskedLaws.{asks_six, refuses_six}
use Rattle.livevec_c.proofs.reads.ask_six.Goals as goal

pub returns-in-Ok-clause-answer : goal.returns-in-Ok-clause-answer
returns-in-Ok-clause-answer c =
    let values = c.six_values.ensures.values ∙ ap (λ (s : State). spread (fold_of (six_operations_by (table_of s.body.automaton)) (slice_of s.history.journal c.args.lo c.args.hi))) c.in-Ok.ensures.same in
    asks_six c.args.lo c.args.hi c.args.vector.now c.in-Ok.answer c.six_values.result _ c.in-Ok.ensures.ok c.in-Ok.ensures.limits values refl

pub returns-in-Err-clause-answer : goal.returns-in-Err-clause-answer
returns-in-Err-clause-answer c =
    refuses_six c.args.lo c.args.hi c.args.vector.now c.in-Err.refusal _ c.in-Err.ensures.err c.in-Err.ensures.limits (rw (← c.number.ensures) (rw (← c.detail.ensures) c.not_reduced.ensures))
