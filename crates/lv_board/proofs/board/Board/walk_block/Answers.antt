-- Proof of `Board::walk_block`: proceeds by the block that begins at the walk's position, from its parts if these are valid, and otherwise from
-- its cells.
use Rattle.std.proofs.Common.{◌+◌, Ok, Err, subst, arith}
use Rattle.lv_board.specs.Rule.{terms_of}
use Rattle.lv_board.specs.Walks.{HasCome, loads_in}
use Rattle.lv_board.proofs.Walking.{come_then, mark_is_read, may_still, read_then, seen_still}
use Rattle.lv_board.proofs.board.Board.walk_block.Goals as goal

pub load_parts-requires-clause-may : goal.load_parts-requires-clause-may
load_parts-requires-clause-may g c = λ _ _. may_still (terms_of g.B.BoardBody.folding c.args.self.now.terms) 1 c.args.seat.now c.load_mark.new.seat c.requires.may (mark_is_read (terms_of g.B.BoardBody.folding c.args.self.now.terms) _ (Ok c.in-Ok.mark) c.args.seat.now c.load_mark.new.seat c.in-Ok.ensures)

pub walk_cells-requires-clause-may : goal.walk_cells-requires-clause-may
walk_cells-requires-clause-may g c = λ _ _.
    let first = mark_is_read (terms_of g.B.BoardBody.folding c.args.self.now.terms) _ (Ok c.in-Ok.mark) c.args.seat.now c.load_mark.new.seat c.in-Ok.ensures in
    may_still (terms_of g.B.BoardBody.folding c.args.self.now.terms) (c.load_parts.ensures.read.loads + 1) c.args.seat.now c.load_parts.new.seat c.requires.may (read_then 1 c.load_parts.ensures.read.loads c.args.seat.now c.load_mark.new.seat c.load_parts.new.seat first c.load_parts.ensures.read.read)

pub with_block-requires-clause-may : goal.with_block-requires-clause-may
with_block-requires-clause-may g c = λ _ _.
    let first = mark_is_read (terms_of g.B.BoardBody.folding c.args.self.now.terms) _ (Ok c.in-Ok.mark) c.args.seat.now c.load_mark.new.seat c.in-Ok.ensures in
    may_still (terms_of g.B.BoardBody.folding c.args.self.now.terms) (c.load_parts.ensures.read.loads + 1) c.args.seat.now c.load_parts.new.seat c.requires.may (read_then 1 c.load_parts.ensures.read.loads c.args.seat.now c.load_mark.new.seat c.load_parts.new.seat first c.load_parts.ensures.read.read)

pub returns-in-None : goal.returns-in-None
returns-in-None g c =
    let first = mark_is_read (terms_of g.B.BoardBody.folding c.args.self.now.terms) _ (Ok c.in-Ok.mark) c.args.seat.now c.load_mark.new.seat c.in-Ok.ensures in
    let parts = c.load_parts.ensures.read in
    come_then (g.B.Body.operations c.args.self.now.terms.body) g.B.Parted.PARTS (loads_in g.B.Parted.PARTS c.args.walk) c.args.walk.lo (c.args.walk.at + 8) (parts.loads + 1) c.walk_cells.result c.args.seat.now c.load_parts.new.seat c.walk_cells.new.seat (read_then 1 parts.loads c.args.seat.now c.load_mark.new.seat c.load_parts.new.seat first parts.read) c.walk_cells.ensures.comes

pub returns-in-Some : goal.returns-in-Some
returns-in-Some g c =
    let first = mark_is_read (terms_of g.B.BoardBody.folding c.args.self.now.terms) _ (Ok c.in-Ok.mark) c.args.seat.now c.load_mark.new.seat c.in-Ok.ensures in
    let parts = c.in-Some.ensures.read in
    let both = read_then 1 parts.loads c.args.seat.now c.load_mark.new.seat c.load_parts.new.seat first parts.read in
    record {
      loads = parts.loads + 1;
      read = both;
      come = subst (λ h. HasCome (g.B.Body.operations c.args.self.now.terms.body) h c.args.walk.lo (c.args.walk.at + 8) c.with_block.result) (seen_still (parts.loads + 1) c.args.seat.now c.load_parts.new.seat both) c.with_block.ensures.come;
      counted = omega (arith, c.with_block.ensures.counted, parts.all);
      overtaken = tt;
    }

pub returns-in-Err : goal.returns-in-Err
returns-in-Err g c = record {
  loads = 1;
  read = mark_is_read (terms_of g.B.BoardBody.folding c.args.self.now.terms) _ (Err c.in-Err.refusal) c.args.seat.now c.load_mark.new.seat c.in-Err.ensures;
  come = tt;
  counted = tt;
  overtaken = (c.in-Err.ensures.overtaken, omega arith);
}
