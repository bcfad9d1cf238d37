-- Proof of `fold_piece`: the fold of the piece of so many elements that has a number.
use Rattle.std.proofs.Common.{◌*◌, ap, ◌∙◌, arith}
use Rattle.lv_bodies.specs.Body.{fold_of}
use Rattle.lv_reduce.specs.Rows.{elements_in}
use Rattle.lv_reduce.proofs.PieceLaws.{piece_of_slice}
use Rattle.lv_reduce.proofs.parallel.slices.fold_piece.Goals as goal

pub returns : goal.returns
returns g c =
    let part = c.args.part in
    let at = c.args.n * c.args.size in
    c.fold_range.ensures
    ∙ ap (fold_of (g.B.Body.operations c.args.body.now))
    (piece_of_slice (elements_in part.row) part.lo part.hi at c.args.size c.min-count.result c.requires.part.inside (omega (arith, c.requires.inside)) c.requires.part.order (omega (arith, c.min-count.ensures)))
