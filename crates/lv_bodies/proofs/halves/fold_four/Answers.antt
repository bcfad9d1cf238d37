-- Proof of `fold_four`: the fold of four elements, by halves.
use Rattle.std.proofs.Common.{arith}
use Rattle.lv_bodies.proofs.HalfFolds.{fold_of-halves}
use Rattle.lv_bodies.proofs.halves.fold_four.Goals as goal

pub returns-clause-fold : goal.returns-clause-fold
returns-clause-fold g c =
    let body = c.args.body.now in
    fold_of-halves (g.B.Body.operations body) (g.B.Body.is_within body) (g.B.Body.laws body) 2 c.args.xs.now _ _ c.fold_two.result c.fold_two-2.result c.combine.result
    (omega (arith, c.requires)) c.split_at.ensures.front c.split_at.ensures.back c.fold_two.ensures.elements c.fold_two-2.ensures.elements c.fold_two.ensures.fold c.fold_two-2.ensures.fold c.combine.ensures
