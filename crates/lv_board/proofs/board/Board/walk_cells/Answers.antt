-- Proof of `Board::walk_cells`: proceeds by cells to an index.
use Rattle.std.proofs.Common.{rules, ◌≡◌, ◌<◌, ◌+◌, Ok, Err, length, ap, ◌∙◌, arith}
use Rattle.std.specs.Int.{w64}
use Rattle.std.proofs.lemmas.Int.{to_z-of_z}
use Rattle.lv_machine.specs.History.{cell_of, elements_of}
use Rattle.lv_machine.specs.Words.{signed, value_of}
use Rattle.lv_board.specs.Rule.{terms_of}
use Rattle.lv_board.proofs.Walking.{at_still, cell_added, cell_is_read, may_grow, may_still, read_then, seen_still}
use Rattle.lv_board.proofs.board.Board.walk_cells.Goals as goal

pub returns-in-Err : goal.returns-in-Err
returns-in-Err g c =
    let inv = c.loop-walk.invariant in
    record {
      comes = record {
        loads = 1 + inv.loads;
        read = read_then inv.loads 1 c.args.seat.now c.loop-walk.seat c.load_cell.new.seat inv.read (cell_is_read (terms_of g.B.BoardBody.folding c.args.self.now.terms) c.loop-walk.walk.at (Err c.in-Err.refusal) c.loop-walk.seat c.load_cell.new.seat c.in-Err.ensures);
        come = tt;
        counted = tt;
        overtaken = (c.in-Err.ensures.overtaken, omega arith);
      };
      most = omega (arith, inv.each, c.loop-walk-test.true);
      each = tt;
    }

pub returns : goal.returns
returns g c =
    let inv = c.loop-walk.invariant in
    let here : c.loop-walk.walk.at ≡ c.args.end = omega (arith, inv.most, c.loop-walk-test.false) in
    record {
      comes = record {
        loads = inv.loads;
        read = inv.read;
        come = record { from = inv.from; here = here; sums = inv.sums };
        counted = omega (arith, inv.counted);
        overtaken = tt;
      };
      most = omega (arith, inv.each, here);
      each = omega (arith, inv.each, here);
    }

pub fold_more-requires-after_bounds : goal.fold_more-requires-after_bounds
fold_more-requires-after_bounds g c = λ _ _. may_grow (g.B.Body.operations c.args.self.now.terms.body) (g.B.Body.is_within c.args.self.now.terms.body) (g.B.Body.laws c.args.self.now.terms.body) (terms_of g.B.BoardBody.folding c.args.self.now.terms) c.args.seat.now.token.me.0.actor.seen c.requires.may.terms c.requires.may.legal c.loop-walk.walk c.loop-walk.invariant.sums

pub loop-walk-preserved : goal.loop-walk-preserved
loop-walk-preserved g c =
    let inv = c.loop-walk.invariant in
    let read = cell_is_read (terms_of g.B.BoardBody.folding c.args.self.now.terms) c.loop-walk.walk.at (Ok c.in-Ok.value) c.loop-walk.seat c.load_cell.new.seat c.in-Ok.ensures in
    let small : c.loop-walk.walk.at < length (elements_of c.args.seat.now.token.me.0.actor.seen) = omega (arith, c.loop-walk-test.true, c.requires.inside) in
    record {
      loads = 1 + inv.loads;
      here = at_still c.args.self.now.table.shared.table_id c.args.self.now.terms 1 c.loop-walk.seat c.load_cell.new.seat inv.here read;
      may = may_still (terms_of g.B.BoardBody.folding c.args.self.now.terms) 1 c.loop-walk.seat c.load_cell.new.seat inv.may read;
      read = read_then inv.loads 1 c.args.seat.now c.loop-walk.seat c.load_cell.new.seat inv.read read;
      each = omega (arith, inv.each);
      counted = omega (arith, inv.counted);
      from = inv.from;
      most = omega (arith, c.loop-walk-test.true);
      sums = cell_added (g.B.Body.operations c.args.self.now.terms.body) (g.B.Body.is_within c.args.self.now.terms.body) (g.B.Body.laws c.args.self.now.terms.body) (terms_of g.B.BoardBody.folding c.args.self.now.terms) c.args.seat.now.token.me.0.actor.seen c.requires.may.terms c.requires.may.legal c.loop-walk.walk c.fold_more.result c.in-Ok.value _ inv.sums small
          (c.in-Ok.ensures.taken ∙ ap (λ h. signed (value_of (cell_of c.loop-walk.walk.at h))) (seen_still inv.loads c.args.seat.now c.loop-walk.seat inv.read))
          (to_z-of_z w64 c.in-Ok.value (search rules))
          c.fold_more.ensures.value;
    }
