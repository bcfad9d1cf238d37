-- Proof of `Board::reduce`: the fold of the elements from index `lo` up to `hi`, `hi` excluded, after the update at which this call looks.
use Rattle.std.proofs.Common.{ap, ◌∙◌, sym, subst, inl, inr, arith}
use Rattle.lv_geometry.specs.declared.refusals.Refusal.TheVariants.{OutOfRange}
use Rattle.lv_board.specs.Rule.{terms_of}
use Rattle.lv_board.specs.Walks.{HasCome}
use Rattle.lv_board.proofs.Calling.{has_looked}
use Rattle.lv_board.proofs.Walking.{looked_and_read, may_after, seen_still, summed}
use Rattle.lv_board.proofs.Moving.{helped_and_read}
use Rattle.lv_board.proofs.board.Board.reduce.Goals as goal

pub returns-then-hi-size-clause-looked : goal.returns-then-hi-size-clause-looked
returns-then-hi-size-clause-looked g c = λ order. has_looked g.B.BoardBody.folding c.args.seat.now.terms c.args.self.now.terms c.args.seat.now.token.me.0.actor c.load_descriptor.new.seat.token.me.0.actor c.load_descriptor.new.seat.look c.requires.terms c.load_descriptor.ensures.quiet c.load_descriptor.ensures.sees

pub walk_range-requires-clause-may : goal.walk_range-requires-clause-may
walk_range-requires-clause-may g c = λ _ _. may_after g.B.BoardBody.folding c.args.seat.now.terms c.args.self.now.terms c.load_descriptor.new.seat c.help.new.seat c.load_descriptor.new.seat.look c.requires.terms c.load_descriptor.ensures.sees c.help.ensures

pub returns-in-Err-clause-looked : goal.returns-in-Err-clause-looked
returns-in-Err-clause-looked g c = λ order. looked_and_read (terms_of g.B.BoardBody.folding c.args.self.now.terms) c.args.seat.now.token.me.0.actor c.walk_range.ensures.loads c.load_descriptor.new.seat c.help.new.seat c.walk_range.new.seat (has_looked g.B.BoardBody.folding c.args.seat.now.terms c.args.self.now.terms c.args.seat.now.token.me.0.actor c.load_descriptor.new.seat.token.me.0.actor c.load_descriptor.new.seat.look c.requires.terms c.load_descriptor.ensures.quiet c.load_descriptor.ensures.sees) c.help.ensures c.walk_range.ensures.read

pub returns-clause-looked : goal.returns-clause-looked
returns-clause-looked g c = λ order. looked_and_read (terms_of g.B.BoardBody.folding c.args.self.now.terms) c.args.seat.now.token.me.0.actor c.walk_range.ensures.loads c.load_descriptor.new.seat c.help.new.seat c.walk_range.new.seat (has_looked g.B.BoardBody.folding c.args.seat.now.terms c.args.self.now.terms c.args.seat.now.token.me.0.actor c.load_descriptor.new.seat.token.me.0.actor c.load_descriptor.new.seat.look c.requires.terms c.load_descriptor.ensures.quiet c.load_descriptor.ensures.sees) c.help.ensures c.walk_range.ensures.read

pub returns-clause-answer : goal.returns-clause-answer
returns-clause-answer g c = λ order.
    summed (g.B.Body.operations c.args.self.now.terms.body) c.walk_range.new.seat.token.me.0.actor.seen c.args.lo c.args.hi c.edit_in.result c.in-Ok.walk order (c.edit_in.ensures.value ∙ c.walk_range.new.seat.looks.edit)
    (subst (λ h. HasCome (g.B.Body.operations c.args.self.now.terms.body) h c.args.lo c.args.hi c.in-Ok.walk) (sym (seen_still c.walk_range.ensures.loads c.help.new.seat c.walk_range.new.seat c.walk_range.ensures.read)) c.in-Ok.ensures.come)

pub returns-then-hi-size-clause-moves : goal.returns-then-hi-size-clause-moves
returns-then-hi-size-clause-moves g c = λ order. inl (ap OutOfRange (c.size_in-size.ensures.value ∙ c.load_descriptor.new.seat.looks.size), c.load_descriptor.ensures.moves)

pub returns-in-Err-clause-moves : goal.returns-in-Err-clause-moves
returns-in-Err-clause-moves g c = λ order. inr (
  c.in-Err.ensures.overtaken.0,
  c.in-Err.ensures.loads,
  c.in-Err.ensures.overtaken.1,
  helped_and_read c.in-Err.ensures.loads c.args.seat.now c.load_descriptor.new.seat c.help.new.seat c.walk_range.new.seat c.load_descriptor.ensures.moves c.load_descriptor.ensures.quiet.number c.help.ensures c.in-Err.ensures.read,
)

pub returns-clause-moves : goal.returns-clause-moves
returns-clause-moves g c = λ order. (
  c.in-Ok.ensures.loads,
  omega (arith, c.in-Ok.ensures.counted),
  helped_and_read c.in-Ok.ensures.loads c.args.seat.now c.load_descriptor.new.seat c.help.new.seat c.walk_range.new.seat c.load_descriptor.ensures.moves c.load_descriptor.ensures.quiet.number c.help.ensures c.in-Ok.ensures.read,
)
