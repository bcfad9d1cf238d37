-- Proof of `cells_from`: how many cells there are up to the next index where a node can begin and end at or before `hi`: those of the block that
-- begins here, or only this one.
use Rattle.std.proofs.Common.{◌≤◌, refl, inr, arith}
use Rattle.lv_reduce.proofs.BlockWalks.{block_fits}
use Rattle.lv_reduce.proofs.costs.cells_from.Goals as goal

pub returns-clause-block : goal.returns-clause-block
returns-clause-block c =
    let some : 1 ≤ c.greatest_level.result = omega arith in
    inr (refl, (block_fits c.args.at c.args.hi c.greatest_level.result some c.greatest_level.ensures.fits).0)

pub returns-clause-inside : goal.returns-clause-inside
returns-clause-inside c =
    let some : 1 ≤ c.greatest_level.result = omega arith in
    (block_fits c.args.at c.args.hi c.greatest_level.result some c.greatest_level.ensures.fits).1
