-- Proof of `AutomatonBody::same`.
use Rattle.std.proofs.lemmas.Slice.Eq.{slice_eq-Decides}
use Rattle.lv_bodies.specs.EqualLaws.{exact_numbers}
use Rattle.lv_bodies.proofs.automata.AutomatonBody.same.Goals as goal

pub returns : goal.returns
returns c = slice_eq-Decides exact_numbers c.args.self.now.table c.args.other.now.table c.eq.result c.eq.ensures
