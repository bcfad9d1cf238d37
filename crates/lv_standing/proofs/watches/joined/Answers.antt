-- Proof of `joined`: the summary of a query's elements and of one more at their end.
use Rattle.std.proofs.Common.{◌∙◌, ◌++◌, ◌∷◌, [], ap, ap₂, subst, sym, w64}
use Rattle.std.proofs.lemmas.Int.{to_z-of_z}
use Rattle.lv_bodies.specs.Body.{CanFold, fold_of}
use Rattle.lv_bodies.specs.Six.{six_operations}
use Rattle.lv_tree.specs.KindSummaries.{kind_of, summary_of}
use Rattle.lv_tree.proofs.KindLaws.{kind_of_part}
use Rattle.lv_standing.proofs.watches.joined.Goals as goal

pub with_last-requires : goal.with_last-requires
with_last-requires g c =
    let kind = ap kind_of c.requires.1 ∙ kind_of_part c.args._query.now.kind (fold_of six_operations g.before) in
    (subst (λ y. CanFold (g.before ++ y ∷ [])) (sym (to_z-of_z w64 c.args.x c.ranges.x)) c.requires.0, c.requires.1 ∙ ap (λ k. summary_of k g.before) (sym kind))

pub returns : goal.returns
returns g c =
    let kind = ap kind_of c.requires.1 ∙ kind_of_part c.args._query.now.kind (fold_of six_operations g.before) in
    c.with_last.ensures ∙ ap₂ (λ k y. summary_of k (g.before ++ y ∷ [])) kind (to_z-of_z w64 c.args.x c.ranges.x)
