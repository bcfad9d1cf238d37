-- Proof of `Live::reduce`: the fold of the elements from index `lo` up to `hi`, at the last edit.
use Rattle.std.proofs.Common.{◌≡◌, sym, ap, ◌∙◌}
use Rattle.lv_live.proofs.QueryLaws.{few_by, reduces_by}
use Rattle.lv_live.proofs.live.Live.reduce.Goals as goal

pub returns-clause-answer : goal.returns-clause-answer
returns-clause-answer g c =
    let s = c.self.inside in
    let cells : c.view.result.cells.now ≡ s.history = c.view.ensures.cells ∙ ap (λ s. s.history) (sym c.self.view_is) in
    let table : c.view.result.table.now ≡ s.table = c.view.ensures.table ∙ ap (λ s. s.table) (sym c.self.view_is) in
    rw (← c.self.view_is) (reduces_by (g.B.Body.operations s.body) s.history.journal s.table s.claims c.self.invariant.agrees c.args.lo c.args.hi c.reduce.result
    (rw (← cells) c.reduce.ensures.ok) (rw (← cells) c.reduce.ensures.err) (rw (← table) c.reduce.ensures.cost))

pub returns-clause-few : goal.returns-clause-few
returns-clause-few g c =
    let s = c.self.inside in
    let table : c.view.result.table.now ≡ s.table = c.view.ensures.table ∙ ap (λ s. s.table) (sym c.self.view_is) in
    rw (← c.self.view_is) (few_by (g.B.Body.operations s.body) s.history.journal s.table s.claims c.self.invariant.agrees c.args.lo c.args.hi c.reduce.result
    (rw (← table) c.reduce.ensures.few))
