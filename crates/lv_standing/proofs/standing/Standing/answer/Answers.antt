-- Proof of `Standing::answer`: the answer of a query at the last edit.
use Rattle.std.proofs.Common.{◌∙◌, ap, sym, refl, slice_index_or}
use Rattle.lv_standing.specs.Queries.{watch_answer}
use Rattle.lv_bodies.specs.declared.kinds.Shown.TheVariants.{Sum}
use Rattle.lv_standing.proofs.QueryLaws.{not_placed, placed}
use Rattle.lv_standing.proofs.standing.Standing.answer.Goals as goal

pub returns-in-Some-clause-ok : goal.returns-in-Some-clause-ok
returns-in-Some-clause-ok c =
    let set = c.self.inside.set in
    let here = placed c.args.name (watch_answer c.self.inside.live.history.journal) set.queries c.in-Some.place (Sum 0) (sym c.in-Some.ensures) in
    rw (← c.self.view_is) (here.0, here.1, c.edit.ensures, ap (λ vs. slice_index_or vs c.in-Some.place (Sum 0)) (c.told.ensures.told ∙ c.self.invariant.told) ∙ here.2)

pub returns-in-None-clause-err : goal.returns-in-None-clause-err
returns-in-None-clause-err c = rw (← c.self.view_is) (not_placed c.args.name c.self.inside.set.queries (sym c.in-None.ensures), refl)
