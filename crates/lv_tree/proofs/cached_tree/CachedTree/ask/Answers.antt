-- Proof of `CachedTree::ask`: what a run comes to is the fold of its elements.
use Rattle.std.proofs.Common.{◌≡◌, ◌≤◌, ap, ◌∙◌, subst, arith}
use Rattle.lv_bodies.specs.Long.{LongLaws}
use Rattle.lv_tree.specs.CachedTrees.{leaves_joined}
use Rattle.lv_tree.proofs.CachedLaws.{joined_is_fold}
use Rattle.lv_tree.proofs.cached_tree.CachedTree.ask.Goals as goal

pub returns-then-self-to-clause-sum : goal.returns-then-self-to-clause-sum
returns-then-self-to-clause-sum g c =
    let t = c.self.inside.tree in
    let run = c.self.inside.run in
    let o = g.B.Body.operations t.body in
    let laws = subst (λ b. LongLaws (g.B.Body.operations b) (g.B.Body.is_within b)) c.body.ensures c.long_laws.ensures in
    let low : t.first ≤ c.args.from = rw c.self.view_is c.requires.first in
    let is : run.sum ≡ leaves_joined o t.first t.sums c.args.from c.args.to =
    c.self.invariant.sum_is (omega (arith, low, c.if-self-from.true)) ∙ ap (λ k. leaves_joined o t.first t.sums k run.to) c.if-self-from.true ∙ ap (leaves_joined o t.first t.sums c.args.from) c.if-self-to.true in
    rw (← c.self.view_is) (joined_is_fold o t.first t.sums (g.B.Body.is_within t.body) laws run.sum c.args.from c.args.to is)

pub returns-clause-sum : goal.returns-clause-sum
returns-clause-sum g c =
    let t = c.self.inside.tree in
    let o = g.B.Body.operations t.body in
    let laws = subst (λ b. LongLaws (g.B.Body.operations b) (g.B.Body.is_within b)) c.body.ensures c.long_laws.ensures in
    let is : c.fold-sum.result ≡ leaves_joined o t.first t.sums c.args.from c.args.to = rw c.self.view_is c.fold-sum.ensures in
    rw (← c.self.view_is) (joined_is_fold o t.first t.sums (g.B.Body.is_within t.body) laws c.fold-sum.result c.args.from c.args.to is)
