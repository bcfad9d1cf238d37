-- Proof of `Board::load_parts`: the parts of a full block's aggregate, if each has the version of the block's mark.
use Rattle.std.proofs.Common.{◌≡◌, ◌+◌, ap, ◌∙◌, slice_index, subst, arith}
use Rattle.lv_board.specs.Rule.{terms_of}
use Rattle.lv_board.specs.Walks.{block_fold, HasRead}
use Rattle.lv_board.proofs.Walking.{all_taken, at_still, may_still, one_more_taken, read_then, seen_still}
use Rattle.lv_board.proofs.board.Board.load_parts.Goals as goal

pub returns-in-None-clause-read : goal.returns-in-None-clause-read
returns-in-None-clause-read g c = record {
  loads = 1 + c.loop-part.part;
  read = read_then c.loop-part.part 1 c.args.seat.now c.loop-part.seat c.load_part.new.seat c.loop-part.invariant.read c.load_part.ensures.read;
  all = tt;
}

pub returns-clause-read : goal.returns-clause-read
returns-clause-read g c = record {
  loads = c.loop-part.part;
  read = c.loop-part.invariant.read;
  all = omega (arith, c.loop-part-test.false, c.PARTS-part-end.ensures, c.loop-part.auto.part-end);
}

pub loop-part-preserved : goal.loop-part-preserved
loop-part-preserved g c =
    let inv = c.loop-part.invariant in
    let s = block_fold (g.B.Body.operations c.args.self.now.terms.body) c.args.b c.args.seat.now.token.me.0.actor.seen in
    record {
      here = at_still c.args.self.now.table.shared.table_id c.args.self.now.terms 1 c.loop-part.seat c.load_part.new.seat inv.here c.load_part.ensures.read;
      may = may_still (terms_of g.B.BoardBody.folding c.args.self.now.terms) 1 c.loop-part.seat c.load_part.new.seat inv.may c.load_part.ensures.read;
      read =
          let more : 1 + c.loop-part.part ≡ c.loop-part.part + 1 = omega arith in
          subst (λ n. HasRead n c.args.seat.now c.load_part.new.seat) more (read_then c.loop-part.part 1 c.args.seat.now c.loop-part.seat c.load_part.new.seat inv.read c.load_part.ensures.read);
      taken = one_more_taken g.B.Parted.parts_of (block_fold (g.B.Body.operations c.args.self.now.terms.body) c.args.b c.args.seat.now.token.me.0.actor.seen) c.loop-part.part c.in-Some.value c.loop-part.values (omega (arith, c.loop-part-test.true, c.PARTS-part-end.ensures, g.B.Parted.some.1)) inv.taken
          (c.in-Some.ensures.value ∙ ap (λ h. slice_index (g.B.Parted.parts_of (block_fold (g.B.Body.operations c.args.self.now.terms.body) c.args.b h)) c.loop-part.part) (seen_still c.loop-part.part c.args.seat.now c.loop-part.seat inv.read));
    }

pub returns-clause-parts : goal.returns-clause-parts
returns-clause-parts g c = all_taken g.B.Parted.parts_of (block_fold (g.B.Body.operations c.args.self.now.terms.body) c.args.b c.args.seat.now.token.me.0.actor.seen) g.B.Parted.PARTS c.loop-part.part c.loop-part.values g.B.Parted.are_parts (omega (arith, c.loop-part-test.false, c.PARTS-part-end.ensures)) c.loop-part.invariant.taken
