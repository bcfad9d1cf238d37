-- Proof of `load_cell`: the element in a cell, as the seat sees it, or the later update that has since written there.
use Rattle.std.proofs.Common.{rules, ◌≤◌, refl, ap, ◌∙◌, length, arith}
use Rattle.std.specs.Int.{w64}
use Rattle.std.proofs.lemmas.Int.{to_z-of_z}
use Rattle.lv_machine.specs.Layout.{count_of}
use Rattle.lv_machine.specs.Words.{cell_version, edit_of, signed, value_of}
use Rattle.lv_machine.proofs.EndsLaws.{legal_earlier}
use Rattle.lv_board.specs.Rule.{terms_of, limits_of}
use Rattle.lv_board.proofs.Calling.{cell_found, version_few}
use Rattle.lv_board.proofs.Seating.{cell_among}
use Rattle.lv_board.proofs.loads.load_cell.Goals as goal

pub load_word-cell-requires-clause-within : goal.load_word-cell-requires-clause-within
load_word-cell-requires-clause-within g c = λ _ _. cell_among c.args.seat.now.terms c.args.seat.now.terms (count_of (limits_of c.args.seat.now.terms)) c.cell_place_of.result c.args.i refl refl c.requires.within c.cell_place_of.ensures

pub overflow_cast-result : goal.overflow_cast-result
overflow_cast-result g c =
    let t = terms_of g.B.BoardBody.folding c.args.seat.now.terms in
    let read = c.load_word-cell.ensures.read in
    let cell = cell_found (terms_of g.B.BoardBody.folding c.args.seat.now.terms) c.args.seat.now.token.me.0.actor c.load_word-cell.new.seat.token.me.0.actor c.args.seat.now.look c.cell_place_of.result c.load_word-cell.result c.args.i read c.args.seat.now.looks.shown c.requires.ready c.requires.within c.cell_place_of.ensures in
    let few = version_few (terms_of g.B.BoardBody.folding c.args.seat.now.terms) c.args.i c.args.seat.now.token.me.0.actor.seen c.load_word-cell.new.seat.token.me.0.actor.known c.load_word-cell.result read.terms read.legal cell in
    omega (arith, few)

pub returns-then-is_later : goal.returns-then-is_later
returns-then-is_later g c =
    let read = c.load_word-cell.ensures.read in
    let cell = cell_found (terms_of g.B.BoardBody.folding c.args.seat.now.terms) c.args.seat.now.token.me.0.actor c.load_word-cell.new.seat.token.me.0.actor c.args.seat.now.look c.cell_place_of.result c.load_word-cell.result c.args.i read c.args.seat.now.looks.shown c.requires.ready c.requires.within c.cell_place_of.ensures in
    let same = ap (λ a. a.seen) read.rest in
    record {
      stays = c.load_word-cell.ensures.stays;
      look = c.load_word-cell.ensures.look;
      quiet = read.quiet;
      rest = read.rest;
      terms = read.terms;
      moves = c.load_word-cell.ensures.moves;
      legal = legal_earlier (terms_of g.B.BoardBody.folding c.args.seat.now.terms) c.args.seat.now.token.me.0.actor.seen c.load_word-cell.new.seat.token.me.0.actor.known read.seen read.legal;
      taken = tt;
      overtaken = record {
        version = c.version_in-version.result;
        refusal_is = refl;
        later = omega (arith, c.is_later.ensures.later c.if-is_later.true, ap length same, c.args.seat.now.looks.edit, ap edit_of c.load_word-cell.ensures.look);
        shown = omega (arith, cell.late);
      };
    }

pub returns : goal.returns
returns g c =
    let read = c.load_word-cell.ensures.read in
    let cell = cell_found (terms_of g.B.BoardBody.folding c.args.seat.now.terms) c.args.seat.now.token.me.0.actor c.load_word-cell.new.seat.token.me.0.actor c.args.seat.now.look c.cell_place_of.result c.load_word-cell.result c.args.i read c.args.seat.now.looks.shown c.requires.ready c.requires.within c.cell_place_of.ensures in
    let early : cell_version c.load_word-cell.result ≤ length c.args.seat.now.token.me.0.actor.seen = omega (arith, c.is_later.ensures.other c.if-is_later.false, c.args.seat.now.looks.edit, ap edit_of c.load_word-cell.ensures.look) in
    record {
      stays = c.load_word-cell.ensures.stays;
      look = c.load_word-cell.ensures.look;
      quiet = read.quiet;
      rest = read.rest;
      terms = read.terms;
      moves = c.load_word-cell.ensures.moves;
      legal = legal_earlier (terms_of g.B.BoardBody.folding c.args.seat.now.terms) c.args.seat.now.token.me.0.actor.seen c.load_word-cell.new.seat.token.me.0.actor.known read.seen read.legal;
      taken = to_z-of_z w64 c.element.result (search rules) ∙ c.element.ensures.value ∙ ap signed (c.value_in.ensures ∙ ap value_of (cell.settled early));
      overtaken = tt;
    }
