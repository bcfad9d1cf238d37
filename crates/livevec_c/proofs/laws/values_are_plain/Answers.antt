-- Proof of `values_are_plain`: the values that a reduction answers are the plain values of its range, by each of the six kinds.
use Rattle.livevec_c.specs.SpreadLaws.{spread-plain}
use Rattle.livevec_c.proofs.laws.values_are_plain.Goals as goal

pub returns : goal.returns
returns c = spread-plain
