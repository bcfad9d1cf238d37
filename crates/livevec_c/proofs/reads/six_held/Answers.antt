-- Proof of `six_held`: a reduction by all six kinds of the object in a slot.
use Rattle.std.proofs.Common.{◌∙◌, Some, ap, sym}
use Rattle.livevec_c.proofs.PlainAnswers.{six_plain}
use Rattle.livevec_c.proofs.reads.six_held.Goals as goal

pub returns-in-Some-clause-plain : goal.returns-in-Some-clause-plain
returns-in-Some-clause-plain c = rw (c.in-Some.ensures.taken ∙ ap Some (sym c.deref_mut.ensures.value)) (six_plain c.args.trees c.args.lo c.args.hi c.six_in-answer.result _ c.six_in-answer.ensures.answer)
