-- Proof of `CachedTree::fold`: what a run comes to, by the tree only or continued from what is remembered.
use Rattle.std.proofs.Common.{◌≡◌, ◌+◌, ◌≤◌, length, sym, ◌∙◌, subst}
use Rattle.lv_bodies.specs.Long.{CanJoinLong, LongLaws}
use Rattle.lv_tree.proofs.CachedLaws.{fold_is_joined, goes_on}
use Rattle.lv_tree.specs.Folds.{AreFolds}
use Rattle.lv_tree.proofs.cached_tree.CachedTree.fold.Goals as goal

pub returns-then-self-from : goal.returns-then-self-from
returns-then-self-from g c =
    let t = c.self.inside.tree in
    let laws = subst (λ b. LongLaws (g.B.Body.operations b) (g.B.Body.is_within b)) c.body-body.ensures c.long_laws.ensures in
    let folds : AreFolds (g.B.Body.operations t.body) t.sums = rw c.self.view_is c.requires.folds in
    rw (← c.self.view_is) (fold_is_joined (g.B.Body.operations t.body) t.first t.sums (g.B.Body.is_within t.body) laws folds c.fold.result c.args.from c.args.to c.fold.ensures)

pub combine_long-requires : goal.combine_long-requires
combine_long-requires g c =
    let t = c.self.inside.tree in
    let run = c.self.inside.run in
    let laws = subst (λ b. LongLaws (g.B.Body.operations b) (g.B.Body.is_within b)) c.body-body.ensures c.long_laws.ensures in
    let folds : AreFolds (g.B.Body.operations t.body) t.sums = rw c.self.view_is c.requires.folds in
    let low : t.first ≤ c.args.from = rw c.self.view_is c.requires.first in
    let high : c.args.to ≤ t.first + length t.sums = rw c.self.view_is c.requires.last in
    let meet = goes_on (g.B.Body.operations t.body) t.first t.sums (g.B.Body.is_within t.body) laws folds run.from run.to c.args.to run.sum c.fold-more.result c.self.invariant c.args.from c.if-self-from.false low c.if-self-to.false high c.fold-more.ensures in
    subst (λ b. CanJoinLong (g.B.Body.is_within b) run.sum c.fold-more.result) (sym c.body-body.ensures) meet.may

pub returns : goal.returns
returns g c =
    let t = c.self.inside.tree in
    let run = c.self.inside.run in
    let laws = subst (λ b. LongLaws (g.B.Body.operations b) (g.B.Body.is_within b)) c.body-body.ensures c.long_laws.ensures in
    let folds : AreFolds (g.B.Body.operations t.body) t.sums = rw c.self.view_is c.requires.folds in
    let low : t.first ≤ c.args.from = rw c.self.view_is c.requires.first in
    let high : c.args.to ≤ t.first + length t.sums = rw c.self.view_is c.requires.last in
    let meet = goes_on (g.B.Body.operations t.body) t.first t.sums (g.B.Body.is_within t.body) laws folds run.from run.to c.args.to run.sum c.fold-more.result c.self.invariant c.args.from c.if-self-from.false low c.if-self-to.false high c.fold-more.ensures in
    rw (← c.self.view_is) (subst (λ b. c.combine_long.result ≡ (g.B.Body.operations b).join run.sum c.fold-more.result) c.body-body.ensures c.combine_long.ensures ∙ meet.is)
