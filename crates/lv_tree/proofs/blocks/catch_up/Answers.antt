-- Proof of `catch_up`: follows a journal to its end, or keeps no leaf.
use Rattle.std.proofs.Common.{sym, subst}
use Rattle.lv_tree.specs.Follows.{Follows}
use Rattle.lv_tree.proofs.FollowLaws.{follows_with_none}
use Rattle.lv_tree.proofs.LeafLaws.{cut}
use Rattle.lv_tree.proofs.blocks.catch_up.Goals as goal

pub walk-requires-clause-late : goal.walk-requires-clause-late
walk-requires-clause-late g c κs within =
    let es = c.args.cells.now.journal in
    let o = g.T.B.Body.operations (g.T.Tree.by c.args.tree.now) in
    let sums = g.T.Tree.sums c.args.tree.now in
    subst (λ t. Follows (g.T.B.Body.operations t) es (g.T.Tree.sums c.keep.new.tree) c.args.seen c.args.size) (sym c.keep.ensures.by)
    (subst (λ l. Follows o es l c.args.seen c.args.size) (sym c.keep.ensures.sums) (cut o es sums c.args.seen c.args.size _ c.requires.late))

pub returns-then-not-walk-clause-late : goal.returns-then-not-walk-clause-late
returns-then-not-walk-clause-late g c =
    follows_with_none (g.T.B.Body.operations (g.T.Tree.by c.args.tree.now)) c.args.cells.now.journal (g.T.Tree.sums c.truncate.new.self) c.truncate.ensures.sums
