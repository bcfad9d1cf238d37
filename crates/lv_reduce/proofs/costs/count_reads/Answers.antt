-- Proof of `count_reads`: how many cells and summaries are read for a range that is not refused.
use Rattle.std.proofs.Common.{arith}
use Rattle.lv_geometry.proofs.NodeLaws.{some_width}
use Rattle.lv_summary.specs.Table.{fresh_in}
use Rattle.lv_reduce.proofs.BlockWalks.{walk_unread}
use Rattle.lv_reduce.proofs.GreatestLaws.{fresh_of_piece}
use Rattle.lv_reduce.proofs.WalkLaws.{walk_node, walk_ends, walk_starts}
use Rattle.lv_reduce.proofs.costs.count_reads.Goals as goal

pub loop-at-init : goal.loop-at-init
loop-at-init g c = walk_starts (fresh_in c.args.table.now) c.args.lo c.args.hi c.requires

pub loop-at-smaller-in-Some : goal.loop-at-smaller-in-Some
loop-at-smaller-in-Some g c = omega (arith, some_width c.in-Some.piece.level, c.width-at.ensures, c.loop-at-test.true)

pub loop-at-preserved-in-Some : goal.loop-at-preserved-in-Some
loop-at-preserved-in-Some g c =
    let level = c.in-Some.piece.level in
    let found = c.in-Some.ensures.some in
    rw c.width-at.ensures
    (walk_node (fresh_in c.args.table.now) c.args.lo c.args.hi c.loop-at.at c.loop-at.cells c.loop-at.summaries level c.loop-at.invariant found.high found.fits found.greatest found.low
    (fresh_of_piece c.args.table.now c.loop-at.at c.args.hi level c.in-Some.piece.summary found))

pub loop-at-preserved : goal.loop-at-preserved
loop-at-preserved g c =
    walk_unread (fresh_in c.args.table.now) c.args.lo c.args.hi c.loop-at.at c.loop-at.cells c.loop-at.summaries c.loop-at.invariant c.in_default.ensures.none
    c.cells_from-unread.result c.cells_from-unread.ensures.block c.cells_from-unread.ensures.inside

pub returns : goal.returns
returns g c = walk_ends (fresh_in c.args.table.now) c.args.lo c.args.hi c.loop-at.at c.loop-at.cells c.loop-at.summaries c.loop-at.invariant c.loop-at-test.false
