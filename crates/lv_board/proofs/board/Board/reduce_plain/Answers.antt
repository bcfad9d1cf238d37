-- Proof of `Board::reduce_plain`: does what `reduce` does, and returns the plain value of the range in place of its aggregate.
use Rattle.lv_board.specs.Rule.{terms_of}
use Rattle.lv_board.specs.Tells.{actor_of}
use Rattle.lv_board.proofs.Opens.{are_terms}
use Rattle.lv_board.proofs.Valued.{valued}
use Rattle.lv_board.proofs.board.Board.reduce_plain.Goals as goal

pub returns-in-Ok-clause-answer : goal.returns-in-Ok-clause-answer
returns-in-Ok-clause-answer g c = λ order.
    let board = c.args.self.now in
    valued (g.B.Body.operations board.terms.body) (g.B.Single.shown_as board.terms.body) (g.B.Single.plain board.terms.body)
    (terms_of g.B.BoardBody.folding board.terms) (actor_of c.reduce.new.seat).seen c.args.lo c.args.hi c.in-Ok.answer c.shown.result
    ((g.met.B.Single g.world.𝓛 g.world.𝓜 g.world.𝓡 ((λ s x. x), (λ p. p), (λ n s. n s), (λ p. p))).shows_plain board.terms.body)
    (are_terms g.B.BoardBody.folding g.B.Parted.PARTS g.B.Parted.parts_of g.B.Body.operations board.terms (g.met.B.BoardBody g.world.𝓛 g.world.𝓜 g.world.𝓡 ((λ s x. x), (λ p. p), (λ n s. n s), (λ p. p))).keeps_parts g.B.Parted.some.1 g.B.Parted.are_parts board.basis)
    (c.reduce.ensures.looked order).legal (c.in-Ok.ensures.answer order) c.shown.ensures
