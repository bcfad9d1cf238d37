-- Proof of `scan_live`: a scan of a vector.
use Rattle.std.proofs.Common.{◌≡◌, ◌-◌, ◌++◌, ◌≤◌, drop, length, map, sym, subst, arith}
use Rattle.std.specs.Prelude.{None}
use Rattle.lv_bodies.specs.Automata.{table_of}
use Rattle.lv_edits.specs.History.{list_of}
use Rattle.lv_edits.specs.Ranges.{range_refusal, slice_of}
use Rattle.lv_reduce.specs.Answer.{scan_of}
use Rattle.livevec_c.proofs.ColumnAnswers.{filled_column}
use Rattle.livevec_c.proofs.columns.scan_live.Goals as goal

pub returns-clause-column : goal.returns-clause-column
returns-clause-column g c =
    let state = c.args.live.now in
    let lo = c.args.lo in
    let hi = c.args.hi in
    let old = c.args.column.now in
    let new = c.lay_front.new.column in
    let b = c.by-body.result in
    let o = g.B.Body.operations b in
    let cell_of = g.B.Celled.cell_of in
    let same = c.view.ensures.cells in
    let plain = (g.met.B.Celled g.world.𝓛 g.world.𝓜 g.world.𝓡 ((λ s x. x), (λ p. p), (λ n s. n s), (λ p. p))).cells_plain in
    let fits : g.B.Celled.fits b (table_of state.body.automaton) = subst (λ body. g.B.Celled.fits b (table_of body.automaton)) c.body.ensures c.by-body.ensures in
    let granted : range_refusal state.history.journal lo hi ≡ None = subst (λ h. range_refusal h.journal lo hi ≡ None) same (sym c.in_default.ensures.value) in
    let is : new ≡ map cell_of (scan_of c.args.inclusive o (slice_of state.history.journal lo hi)) ++ drop (hi - lo) old =
    subst (λ h. new ≡ map cell_of (scan_of c.args.inclusive o (slice_of h.journal lo hi)) ++ drop (hi - lo) old) same c.lay_front.ensures in
    filled_column state lo hi o cell_of g.B.Celled.plain_cell c.args.inclusive old new (λ ys. plain b (table_of state.body.automaton) ys fits)
    granted c.in_default.ensures.order (subst (λ h. hi ≤ length (list_of h.journal)) same c.in_default.ensures.inside) (omega (arith, c.if-column-many.false)) is
