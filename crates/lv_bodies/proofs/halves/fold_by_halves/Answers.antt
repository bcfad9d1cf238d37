-- Proof of `fold_by_halves`: the fold of eight elements, by halves.
use Rattle.std.proofs.Common.{arith}
use Rattle.lv_bodies.proofs.HalfFolds.{fold_of-halves}
use Rattle.lv_bodies.proofs.halves.fold_by_halves.Goals as goal

pub returns-clause-fold : goal.returns-clause-fold
returns-clause-fold g c =
    let body = c.args.body.now in
    fold_of-halves (g.B.Body.operations body) (g.B.Body.is_within body) (g.B.Body.laws body) 4 c.args.xs.now _ _ c.fold_four.result c.fold_four-2.result c.combine.result
    (omega (arith, c.requires)) c.split_at.ensures.front c.split_at.ensures.back c.fold_four.ensures.elements c.fold_four-2.ensures.elements c.fold_four.ensures.fold c.fold_four-2.ensures.fold c.combine.ensures
