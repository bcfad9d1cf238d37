-- Proof of `write_piece`: the bytes from a place on.
use Rattle.std.proofs.Common.{arith}
use Rattle.lv_saved.specs.Saved.{numbers_by}
use Rattle.lv_saved.proofs.NumberLaws.{length_numbers}
use Rattle.lv_saved.proofs.PieceLaws.{is_piece}
use Rattle.lv_saved.proofs.pieces.write_piece.Goals as goal

pub returns : goal.returns
returns c =
    let long = length_numbers c.args.head.now c.args.elements.now c.args.times.now in
    is_piece (numbers_by c.args.head.now c.args.elements.now c.args.times.now) c.args.from c.min-first.result c.min-count.result c.args.into.now c.fill.new.into c.requires.whole
    (omega (arith, c.min-first.ensures, long, c.told-head)) (omega (arith, c.min-count.ensures, long, c.told-head)) c.fill.ensures
