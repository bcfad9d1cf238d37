-- Proof of `Board::with_block`: a walk with the block at its position.
use Rattle.std.proofs.Common.{sym, subst}
use Rattle.lv_bodies.specs.Body.{CanJoin}
use Rattle.lv_bodies.specs.Parts.{HasParts}
use Rattle.lv_board.specs.Rule.{terms_of}
use Rattle.lv_board.proofs.Walking.{block_added, block_can_join, block_counted}
use Rattle.lv_board.proofs.board.Board.with_block.Goals as goal

pub combine-requires : goal.combine-requires
combine-requires g c =
    let has : HasParts g.B.Parted.parts_of g.B.Parted.whole_of (g.B.Body.operations c.args.self.now.terms.body) = (g.met.B.Parted g.world.𝓛 g.world.𝓜 g.world.𝓡 ((λ s x. x), (λ p. p), (λ n s. n s), (λ p. p))).has_parts c.args.self.now.terms.body in
    subst (CanJoin (g.B.Body.is_within c.args.self.now.terms.body) c.args.walk.sum) (sym c.of_parts.ensures)
    (block_can_join (g.B.Body.operations c.args.self.now.terms.body) (g.B.Body.is_within c.args.self.now.terms.body) (g.B.Body.laws c.args.self.now.terms.body) (terms_of g.B.BoardBody.folding c.args.self.now.terms) c.args.seat.now.token.me.0.actor.seen c.requires.may.terms c.requires.may.legal g.B.Parted.parts_of g.B.Parted.whole_of has c.args.walk c.requires.sums c.requires.begins c.requires.inside c.args.parts c.requires.parts)

pub returns-clause-come : goal.returns-clause-come
returns-clause-come g c =
    let has : HasParts g.B.Parted.parts_of g.B.Parted.whole_of (g.B.Body.operations c.args.self.now.terms.body) = (g.met.B.Parted g.world.𝓛 g.world.𝓜 g.world.𝓡 ((λ s x. x), (λ p. p), (λ n s. n s), (λ p. p))).has_parts c.args.self.now.terms.body in
    block_added (g.B.Body.operations c.args.self.now.terms.body) (g.B.Body.is_within c.args.self.now.terms.body) (g.B.Body.laws c.args.self.now.terms.body) (terms_of g.B.BoardBody.folding c.args.self.now.terms) c.args.seat.now.token.me.0.actor.seen c.requires.may.terms c.requires.may.legal g.B.Parted.parts_of g.B.Parted.whole_of has c.args.walk c.requires.sums c.requires.begins c.requires.inside c.args.parts c.of_parts.result c.combine.result c.requires.parts c.of_parts.ensures c.combine.ensures

pub returns-clause-counted : goal.returns-clause-counted
returns-clause-counted g c = block_counted g.B.Parted.PARTS c.args.walk.cells c.args.walk.summaries
