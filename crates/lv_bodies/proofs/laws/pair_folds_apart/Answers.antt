-- Proof of `pair_folds_apart`: the fold of a pair is the pair of the folds.
use Rattle.lv_bodies.proofs.PairFolds.{fold_of-pair}
use Rattle.lv_bodies.proofs.laws.pair_folds_apart.Goals as goal

pub returns : goal.returns
returns g c = λ p xs. fold_of-pair (g.A.Body.operations p.first) (g.B.Body.operations p.second) xs
