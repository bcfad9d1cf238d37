-- Proof of `Board::load_part`: a part of a full block's aggregate, if it has the version of the block's mark.
use Rattle.std.proofs.Common.{◌≡◌, ◌+◌, ◌<◌, refl, ap, ◌∙◌, subst, arith}
use Rattle.lv_edits.specs.Touch.{elements_under}
use Rattle.lv_machine.specs.History.{edits_of}
use Rattle.lv_machine.specs.Layout.{count_of}
use Rattle.lv_machine.specs.Shows.{block, mark_of}
use Rattle.lv_machine.specs.Words.{part_version}
use Rattle.lv_board.specs.Plays.{IsRead}
use Rattle.lv_board.specs.Rule.{terms_of, limits_of}
use Rattle.lv_board.proofs.Seating.{block_among}
use Rattle.lv_board.proofs.Walking.{part_read}
use Rattle.lv_board.proofs.board.Board.load_part.Goals as goal

pub load_word-word-requires-clause-within : goal.load_word-word-requires-clause-within
load_word-word-requires-clause-within g c = λ _ _. block_among c.args.self.now.terms c.args.self.now.terms (count_of (limits_of c.args.self.now.terms)) c.part_place_of.result c.args.b (9 + c.args.part) refl refl c.requires.within (omega (arith, c.requires.part, g.B.Parted.some.1)) c.part_place_of.ensures

pub returns-then-part_version_in-from-clause-value : goal.returns-then-part_version_in-from-clause-value
returns-then-part_version_in-from-clause-value g c =
    let t = terms_of g.B.BoardBody.folding c.args.self.now.terms in
    let read = subst (λ z. IsRead (terms_of g.B.BoardBody.folding z) c.args.seat.now.token.me.0.actor c.load_word-word.new.seat.token.me.0.actor c.part_place_of.result c.load_word-word.result) c.requires.here.terms c.load_word-word.ensures.read in
    let keeps = (g.met.B.BoardBody g.world.𝓛 g.world.𝓜 g.world.𝓡 ((λ s x. x), (λ p. p), (λ n s. n s), (λ p. p))).keeps_parts in
    let among : c.args.part < t.folding.parts = omega (arith, c.requires.part, ap (λ f. (f c.args.self.now.terms.body).parts) keeps) in
    let version : part_version c.load_word-word.result ≡ mark_of c.args.b c.args.seat.now.token.me.0.actor.seen = omega (arith, c.if-part_version_in-from.true, c.part_version_in.ensures, c.requires.mark) in
    c.part_value_in.ensures ∙ part_read t c.args.seat.now.token.me.0.actor c.load_word-word.new.seat.token.me.0.actor c.part_place_of.result c.load_word-word.result c.args.b c.args.part read c.requires.within among c.part_place_of.ensures c.requires.whole version
    ∙ ap (λ f. (f c.args.self.now.terms.body).part c.args.part (elements_under (edits_of c.args.seat.now.token.me.0.actor.seen) (block c.args.b))) keeps
