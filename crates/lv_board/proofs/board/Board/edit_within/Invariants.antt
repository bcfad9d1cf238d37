-- Loop invariants of `Board::edit_within`: one try, and further ones while they fail because of other seats.
use Rattle.lv_board.specs.declared.actors.Actor.{Actor}
use Rattle.lv_board.specs.Calls.{TryAnswers}
use Rattle.lv_board.specs.Closing.{IsStill}
use Rattle.lv_board.specs.Retrying.{AreOutrun}
use Rattle.lv_board.specs.Rule.{terms_of}
use Rattle.lv_board.specs.Tells.{actor_of}
use Rattle.lv_board.proofs.board.Board.edit_within.Given as goal

abbrev pub invariant-loop-outrun : goal.invariant-loop-outrun
invariant-loop-outrun g l = record {
  still : IsStill l.fn.seat l.seat;
  before : Actor;
  outrun : AreOutrun (terms_of g.B.BoardBody.folding l.self.terms) l.edit l.outrun (actor_of l.fn.seat) before;
  last : TryAnswers (terms_of g.B.BoardBody.folding l.self.terms) before (actor_of l.seat) l.edit l.answer;
}
