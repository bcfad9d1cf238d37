-- Proof of `Live::cost`.
use Rattle.std.proofs.Common.{◌≡◌, sym, ap, ◌∙◌}
use Rattle.lv_live.proofs.QueryLaws.{costs_by}
use Rattle.lv_live.proofs.live.Live.cost.Goals as goal

pub returns : goal.returns
returns g c =
    let s = c.self.inside in
    let cells : c.view.result.cells.now ≡ s.history = c.view.ensures.cells ∙ ap (λ s. s.history) (sym c.self.view_is) in
    let table : c.view.result.table.now ≡ s.table = c.view.ensures.table ∙ ap (λ s. s.table) (sym c.self.view_is) in
    rw (← c.self.view_is) (costs_by (g.B.Body.operations s.body) s.history.journal s.table s.claims c.self.invariant.agrees c.args.lo c.args.hi c.cost.result
    (rw (← table) c.cost.ensures.ok) (rw (← cells) c.cost.ensures.granted) (rw (← cells) c.cost.ensures.err))
