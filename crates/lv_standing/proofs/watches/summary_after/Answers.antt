-- Proof of `summary_after`: the summary, after the edit, of a query that has a changed element.
use Rattle.std.proofs.Common.{◌∙◌, ◌++◌, ◌∷◌, [], ap, subst, sym, w64}
use Rattle.std.proofs.lemmas.Int.{to_z-of_z}
use Rattle.lv_bodies.specs.Body.{CanFold}
use Rattle.lv_edits.specs.History.{list_of}
use Rattle.lv_summary.proofs.FoldableLaws.{can_fold}
use Rattle.lv_tree.specs.KindSummaries.{summary_of}
use Rattle.lv_tree.proofs.KindLaws.{last_is_element}
use Rattle.lv_standing.specs.Queries.{span_of}
use Rattle.lv_standing.proofs.RangeLaws.{pushed_inside, span_can_fold}
use Rattle.lv_standing.proofs.watches.summary_after.Goals as goal

pub joined-requires : goal.joined-requires
joined-requires g c =
    let new = c.args.live.now.history in
    let q = c.args.query.now in
    let x = c.in-Some.x in
    let before = span_of q.span (list_of g.old) in
    let longer = pushed_inside g.old new.journal c.args.changed q.span x c.requires.1.1.1.0 c.requires.1.1.0 (sym c.joined_to.ensures ∙ c.in-Some.is) in
    let can : CanFold (before ++ x ∷ []) = subst CanFold longer (span_can_fold (list_of new.journal) q.span (can_fold new c.requires.0)) in
    (subst (λ y. CanFold (before ++ y ∷ [])) (sym (to_z-of_z w64 x (last_is_element before x can))) can, c.requires.1.1.1.1.1.1.1 _)

pub returns-in-Some-clause-value : goal.returns-in-Some-clause-value
returns-in-Some-clause-value g c =
    let new = c.args.live.now.history in
    let q = c.args.query.now in
    let x = c.in-Some.x in
    let before = span_of q.span (list_of g.old) in
    let longer = pushed_inside g.old new.journal c.args.changed q.span x c.requires.1.1.1.0 c.requires.1.1.0 (sym c.joined_to.ensures ∙ c.in-Some.is) in
    let can : CanFold (before ++ x ∷ []) = subst CanFold longer (span_can_fold (list_of new.journal) q.span (can_fold new c.requires.0)) in
    c.joined.ensures ∙ ap (λ y. summary_of q.kind (before ++ y ∷ [])) (to_z-of_z w64 x (last_is_element before x can)) ∙ ap (summary_of q.kind) (sym longer)
