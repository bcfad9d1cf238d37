-- Proof of `Board::edit_within`: one try, and further ones while they fail because of other seats.
use Rattle.std.proofs.Common.{rules, IsTrue, subst, arith}
use Rattle.lv_board.specs.Rule.{terms_of}
use Rattle.lv_board.proofs.Retries.{found_looked, outrun_more, tried_within}
use Rattle.lv_board.proofs.Still.{still_then}
use Rattle.lv_board.proofs.board.Board.edit_within.Goals as goal

pub returns-then-not-is_outrun-clause-answer : goal.returns-then-not-is_outrun-clause-answer
returns-then-not-is_outrun-clause-answer g c = record {
  before = c.loop-outrun.invariant.before;
  outrun = c.loop-outrun.outrun;
  first = c.loop-outrun.invariant.outrun;
  last = c.loop-outrun.invariant.last;
  few = omega arith;
  all = λ is. search (rules, subst IsTrue c.if-not-is_outrun.true (c.is_outrun.ensures.1 is));
  tried = tried_within (terms_of g.B.BoardBody.folding c.args.self.now.terms) c.args.edit c.loop-outrun.outrun c.args.seat.now.token.me.0.actor c.loop-outrun.invariant.before c.loop-outrun.seat.token.me.0.actor c.loop-outrun.answer c.loop-outrun.invariant.outrun c.loop-outrun.invariant.last;
}

pub try_edit-answer-requires-in-loop-outrun-clause-found : goal.try_edit-answer-requires-in-loop-outrun-clause-found
try_edit-answer-requires-in-loop-outrun-clause-found g c = λ _ _ loads.
    found_looked (terms_of g.B.BoardBody.folding c.args.self.now.terms) c.args.edit c.loop-outrun.invariant.before c.loop-outrun.seat.token.me.0.actor c.loop-outrun.answer c.loop-outrun.invariant.last (c.has_found-loads.ensures.0 (search (rules, loads)))

pub loop-outrun-preserved : goal.loop-outrun-preserved
loop-outrun-preserved g c =
    let inv = c.loop-outrun.invariant in
    record {
      still = still_then c.args.seat.now c.loop-outrun.seat c.try_edit-answer-in-loop-outrun.new.seat inv.still c.try_edit-answer-in-loop-outrun.ensures.still;
      before = c.loop-outrun.seat.token.me.0.actor;
      outrun = outrun_more (terms_of g.B.BoardBody.folding c.args.self.now.terms) c.args.edit c.loop-outrun.outrun c.args.seat.now.token.me.0.actor inv.before c.loop-outrun.seat.token.me.0.actor c.loop-outrun.answer inv.outrun inv.last (c.is_outrun.ensures.0 c.if-not-is_outrun.false);
      last = c.try_edit-answer-in-loop-outrun.ensures.answer;
    }

pub returns-clause-answer : goal.returns-clause-answer
returns-clause-answer g c = record {
  before = c.loop-outrun.invariant.before;
  outrun = c.loop-outrun.outrun;
  first = c.loop-outrun.invariant.outrun;
  last = c.loop-outrun.invariant.last;
  few = omega (arith, c.requires.some, c.loop-outrun.auto.outrun-end);
  all = λ is. omega (arith, c.requires.some, c.loop-outrun.auto.outrun-end, c.loop-outrun-test.false);
  tried = tried_within (terms_of g.B.BoardBody.folding c.args.self.now.terms) c.args.edit c.loop-outrun.outrun c.args.seat.now.token.me.0.actor c.loop-outrun.invariant.before c.loop-outrun.seat.token.me.0.actor c.loop-outrun.answer c.loop-outrun.invariant.outrun c.loop-outrun.invariant.last;
}
