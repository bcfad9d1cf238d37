-- Proof of `Board::walk_range`: walks through a range of the elements.
use Rattle.std.proofs.Common.{◌+◌, ◌∙◌, subst, arith}
use Rattle.lv_board.specs.Rule.{terms_of}
use Rattle.lv_board.specs.Walks.{Sums}
use Rattle.lv_board.proofs.Walking.{at_still, may_still, read_then, seen_still}
use Rattle.lv_board.proofs.board.Board.walk_range.Goals as goal

pub returns-in-Err : goal.returns-in-Err
returns-in-Err g c =
    let inv = c.loop-walk.invariant in
    record {
      loads = c.in-Err.ensures.loads + inv.loads;
      read = read_then inv.loads c.in-Err.ensures.loads c.args.seat.now c.loop-walk.seat c.walk_on.new.seat inv.read c.in-Err.ensures.read;
      come = tt;
      counted = tt;
      overtaken = (c.in-Err.ensures.overtaken.0, omega (arith, c.in-Err.ensures.overtaken.1));
    }

pub returns : goal.returns
returns g c =
    let inv = c.loop-walk.invariant in
    record {
      loads = inv.loads;
      read = inv.read;
      come = record { from = inv.from; here = omega (arith, inv.most, c.loop-walk-test.false); sums = inv.sums };
      counted = omega (arith, inv.counted);
      overtaken = tt;
    }

pub loop-walk-preserved : goal.loop-walk-preserved
loop-walk-preserved g c =
    let inv = c.loop-walk.invariant in
    let gone = c.in-Ok.ensures.gone in
    record {
      loads = c.in-Ok.ensures.loads + inv.loads;
      here = at_still c.args.self.now.table.shared.table_id c.args.self.now.terms c.in-Ok.ensures.loads c.loop-walk.seat c.walk_on.new.seat inv.here c.in-Ok.ensures.read;
      may = may_still (terms_of g.B.BoardBody.folding c.args.self.now.terms) c.in-Ok.ensures.loads c.loop-walk.seat c.walk_on.new.seat inv.may c.in-Ok.ensures.read;
      read = read_then inv.loads c.in-Ok.ensures.loads c.args.seat.now c.loop-walk.seat c.walk_on.new.seat inv.read c.in-Ok.ensures.read;
      counted = omega (arith, inv.counted, c.in-Ok.ensures.counted);
      from = gone.from ∙ inv.from;
      most = gone.most;
      sums = subst (λ h. Sums (g.B.Body.operations c.args.self.now.terms.body) h c.in-Ok.next) (seen_still inv.loads c.args.seat.now c.loop-walk.seat inv.read) gone.sums;
    }
