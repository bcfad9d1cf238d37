-- Proof of `lay_piece`: puts the running values of some elements at the start of a column, which keeps what it has after them.
use Rattle.std.proofs.Common.{◌+◌, ◌++◌, length, drop, map, sym, ap, subst, ◌∙◌, arith}
use Rattle.std.proofs.lemmas.List.{length-take-le, take_all}
use Rattle.lv_reduce.specs.Running.{scan_from}
use Rattle.livevec_c.proofs.SeriesLaws.{piece_can, piece_cells}
use Rattle.livevec_c.proofs.series_columns.lay_piece.Goals as goal

pub lay_run-requires-clause-can : goal.lay_run-requires-clause-can
lay_run-requires-clause-can g c κs within =
    let b = c.by-body.result in
    let laws = (g.met.B.LongBody g.world.𝓛 g.world.𝓜 g.world.𝓡 ((λ s x. x), (λ p. p), (λ n s. n s), (λ p. p))).long b in
    piece_can (g.B.Body.operations b) (g.B.Body.is_within b) laws c.args.series.now.held c.args.lo c.args.at (length c.args.xs.now) c.requires.front c.requires.rest c.holds.ensures.elements c.holds.ensures.few c.begun-before.result c.begun-before.ensures

pub returns : goal.returns
returns g c =
    let s = c.args.series.now in
    let xs = c.args.xs.now in
    let b = c.by-body.result in
    let o = g.B.Body.operations b in
    let cell_of = g.B.Celled.cell_of in
    let new = c.lay_run.new.column in
    let plain = (g.met.B.Celled g.world.𝓛 g.world.𝓜 g.world.𝓡 ((λ s x. x), (λ p. p), (λ n s. n s), (λ p. p))).cells_plain in
    let fits = subst (g.B.Celled.fits b) c.automaton.ensures c.by-body.ensures in
    ap (λ ys. ys ++ drop (length xs) c.args.column.now)
    (sym (take_all (0 + length xs) new (omega (arith, c.lay_run.ensures.len, length-take-le (length xs) c.args.column.now c.requires.room)))
    ∙ c.lay_run.ensures.cells
    ∙ ap (λ t. map cell_of (scan_from c.args.inclusive o t xs)) c.begun-before.ensures
    ∙ piece_cells o cell_of (g.B.Celled.plain_cell s.table) (λ ys. plain b s.table ys fits) s.held c.args.lo c.args.at xs c.requires.front c.requires.rest c.requires.elements c.args.inclusive)
