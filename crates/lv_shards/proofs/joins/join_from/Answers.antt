-- Proof of `join_from`: one after the other, until one is rejected.
use Rattle.std.proofs.lemmas.Result.{err_from_is_err_and}
use Rattle.lv_shards.proofs.InOrder.{refused_at}
use Rattle.lv_shards.proofs.joins.join_from.Goals as goal

pub returns-in_err-all : goal.returns-in_err-all
returns-in_err-all c =
    let p = err_from_is_err_and c.from_residual.result c.from_residual.ensures.1 in
    rw (p.1, p.2) (refused_at c.loop-part.all c.args.first c.part-item.result c.part-item.result c.args.parts.now c.loop-part.part-index c.in_err-all.field-0.0 c.loop-part-test.true c.part-item.is c.in_err-all.ensures.joined c.loop-part.invariant)
