-- Proof of `Board::load_mark`: the mark of a block, as the seat sees it, or the later update that has since touched the block.
use Rattle.std.proofs.Common.{◌≤◌, length, refl, ap, subst, arith}
use Rattle.lv_machine.specs.Layout.{count_of}
use Rattle.lv_machine.specs.Words.{edit_of}
use Rattle.lv_machine.proofs.EndsLaws.{legal_earlier}
use Rattle.lv_board.specs.Plays.{IsRead}
use Rattle.lv_board.specs.Rule.{terms_of, limits_of}
use Rattle.lv_board.proofs.Calling.{mark_few, mark_found}
use Rattle.lv_board.proofs.Seating.{block_among}
use Rattle.lv_board.proofs.board.Board.load_mark.Goals as goal

pub load_word-mark-requires-clause-within : goal.load_word-mark-requires-clause-within
load_word-mark-requires-clause-within g c = λ _ _. block_among c.args.self.now.terms c.args.self.now.terms (count_of (limits_of c.args.self.now.terms)) c.mark_place_of.result c.args.b 8 refl refl c.requires.within (omega arith) c.mark_place_of.ensures

pub overflow_cast-result : goal.overflow_cast-result
overflow_cast-result g c =
    let read = subst (λ z. IsRead (terms_of g.B.BoardBody.folding z) c.args.seat.now.token.me.0.actor c.load_word-mark.new.seat.token.me.0.actor c.mark_place_of.result c.load_word-mark.result) c.requires.here.terms c.load_word-mark.ensures.read in
    let mark = mark_found (terms_of g.B.BoardBody.folding c.args.self.now.terms) c.args.seat.now.token.me.0.actor c.load_word-mark.new.seat.token.me.0.actor c.args.seat.now.look c.mark_place_of.result c.load_word-mark.result c.args.b read c.args.seat.now.looks.shown c.requires.ready c.requires.within c.mark_place_of.ensures in
    let few = mark_few (terms_of g.B.BoardBody.folding c.args.self.now.terms) c.args.b c.args.seat.now.token.me.0.actor.seen c.load_word-mark.new.seat.token.me.0.actor.known c.load_word-mark.result read.terms read.legal mark in
    omega (arith, few)

pub overflow_cast-result-2 : goal.overflow_cast-result-2
overflow_cast-result-2 g c =
    let read = subst (λ z. IsRead (terms_of g.B.BoardBody.folding z) c.args.seat.now.token.me.0.actor c.load_word-mark.new.seat.token.me.0.actor c.mark_place_of.result c.load_word-mark.result) c.requires.here.terms c.load_word-mark.ensures.read in
    let mark = mark_found (terms_of g.B.BoardBody.folding c.args.self.now.terms) c.args.seat.now.token.me.0.actor c.load_word-mark.new.seat.token.me.0.actor c.args.seat.now.look c.mark_place_of.result c.load_word-mark.result c.args.b read c.args.seat.now.looks.shown c.requires.ready c.requires.within c.mark_place_of.ensures in
    let few = mark_few (terms_of g.B.BoardBody.folding c.args.self.now.terms) c.args.b c.args.seat.now.token.me.0.actor.seen c.load_word-mark.new.seat.token.me.0.actor.known c.load_word-mark.result read.terms read.legal mark in
    omega (arith, few)

pub returns-then-is_later : goal.returns-then-is_later
returns-then-is_later g c =
    let read = subst (λ z. IsRead (terms_of g.B.BoardBody.folding z) c.args.seat.now.token.me.0.actor c.load_word-mark.new.seat.token.me.0.actor c.mark_place_of.result c.load_word-mark.result) c.requires.here.terms c.load_word-mark.ensures.read in
    let mark = mark_found (terms_of g.B.BoardBody.folding c.args.self.now.terms) c.args.seat.now.token.me.0.actor c.load_word-mark.new.seat.token.me.0.actor c.args.seat.now.look c.mark_place_of.result c.load_word-mark.result c.args.b read c.args.seat.now.looks.shown c.requires.ready c.requires.within c.mark_place_of.ensures in
    record {
      stays = c.load_word-mark.ensures.stays;
      look = c.load_word-mark.ensures.look;
      quiet = read.quiet;
      rest = read.rest;
      terms = read.terms;
      moves = c.load_word-mark.ensures.moves;
      legal = legal_earlier (terms_of g.B.BoardBody.folding c.args.self.now.terms) c.args.seat.now.token.me.0.actor.seen c.load_word-mark.new.seat.token.me.0.actor.known read.seen read.legal;
      taken = tt;
      overtaken = record {
        version = c.load_word-mark.result;
        refusal_is = refl;
        later = omega (arith, c.is_later.ensures.later c.if-is_later.true, ap (λ a. length a.seen) read.rest, c.args.seat.now.looks.edit, ap edit_of c.load_word-mark.ensures.look);
        shown = omega (arith, mark.late);
      };
    }

pub returns : goal.returns
returns g c =
    let read = subst (λ z. IsRead (terms_of g.B.BoardBody.folding z) c.args.seat.now.token.me.0.actor c.load_word-mark.new.seat.token.me.0.actor c.mark_place_of.result c.load_word-mark.result) c.requires.here.terms c.load_word-mark.ensures.read in
    let mark = mark_found (terms_of g.B.BoardBody.folding c.args.self.now.terms) c.args.seat.now.token.me.0.actor c.load_word-mark.new.seat.token.me.0.actor c.args.seat.now.look c.mark_place_of.result c.load_word-mark.result c.args.b read c.args.seat.now.looks.shown c.requires.ready c.requires.within c.mark_place_of.ensures in
    let early : c.load_word-mark.result ≤ length c.args.seat.now.token.me.0.actor.seen = omega (arith, c.is_later.ensures.other c.if-is_later.false, c.args.seat.now.looks.edit, ap edit_of c.load_word-mark.ensures.look) in
    record {
      stays = c.load_word-mark.ensures.stays;
      look = c.load_word-mark.ensures.look;
      quiet = read.quiet;
      rest = read.rest;
      terms = read.terms;
      moves = c.load_word-mark.ensures.moves;
      legal = legal_earlier (terms_of g.B.BoardBody.folding c.args.self.now.terms) c.args.seat.now.token.me.0.actor.seen c.load_word-mark.new.seat.token.me.0.actor.known read.seen read.legal;
      taken = mark.settled early;
      overtaken = tt;
    }
