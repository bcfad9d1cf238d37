-- Proof of `value_by`: a value of a vector by any kind.
use Rattle.std.proofs.Common.{ap, sym, ◌∙◌}
use Rattle.livevec_c.specs.Valued.{value_of}
use Rattle.livevec_c.proofs.by_kind.value_by.Goals as goal

pub returns-in-Sum-clause-answer : goal.returns-in-Sum-clause-answer
returns-in-Sum-clause-answer c = c.value_of_vector.ensures.answer ∙ ap (λ kind. value_of kind c.args.lo c.args.hi c.args.vector.now) (sym c.in-Sum.is)
