-- Proof of `Board::close_by`: the closed vector, for the seats that are handed in, in a vector that has room for its elements.
use Rattle.std.proofs.Common.{sym, ap, ◌∙◌, map, arith}
use Rattle.std.specs.List.{range_with_len}
use Rattle.std.specs.Mem.Slots.{slots_items}
use Rattle.lv_machine.specs.Words.{edit_of, size_of}
use Rattle.lv_board.specs.Ended.{shown_at}
use Rattle.lv_board.specs.Rule.{terms_of}
use Rattle.lv_board.proofs.Closes.{cell_within, ended_of, size_within, word_read}
use Rattle.lv_board.proofs.board.Board.close_by.Goals as goal

pub settle-words-requires-clause-at : goal.settle-words-requires-clause-at
settle-words-requires-clause-at g c = λ _ _. c.requires.at

pub word-look-requires : goal.word-look-requires
word-look-requires g c = (omega (arith, c.settle-words.ensures.words), c.settle-words.ensures.full)

pub collect-requires-clause-full : goal.collect-requires-clause-full
collect-requires-clause-full g c = c.settle-words.ensures.full

pub collect-requires-clause-look : goal.collect-requires-clause-look
collect-requires-clause-look g c = sym (word_read (slots_items c.settle-words.result.words) 0 c.word-look.result c.word-look.ensures)

pub collect-requires-clause-none : goal.collect-requires-clause-none
collect-requires-clause-none g c = c.requires.none

pub collect-requires-clause-within : goal.collect-requires-clause-within
collect-requires-clause-within g c = λ i less.
    let settled = c.settle-words.ensures.settled in
    let first = word_read (slots_items c.settle-words.result.words) 0 c.word-look.result c.word-look.ensures in
    let few = size_within (terms_of g.B.BoardBody.folding c.args.self.terms) (slots_items c.settle-words.result.words) settled.history settled.looks settled.terms settled.shown in
    omega (arith, cell_within (terms_of g.B.BoardBody.folding c.args.self.terms) i (omega (arith, ap size_of first)), c.settle-words.ensures.words)

pub collect-requires-clause-room : goal.collect-requires-clause-room
collect-requires-clause-room g c =
    let settled = c.settle-words.ensures.settled in
    let first = word_read (slots_items c.settle-words.result.words) 0 c.word-look.result c.word-look.ensures in
    let few = size_within (terms_of g.B.BoardBody.folding c.args.self.terms) (slots_items c.settle-words.result.words) settled.history settled.looks settled.terms settled.shown in
    omega (arith, ap size_of first, c.requires.room)

pub returns : goal.returns
returns g c =
    let first = word_read (slots_items c.settle-words.result.words) 0 c.word-look.result c.word-look.ensures in
    ended_of (terms_of g.B.BoardBody.folding c.args.self.terms) c.args.seats.items (slots_items c.settle-words.result.words) c.closed_at.result c.settle-words.ensures.settled
    (c.closed_at.ensures.edit ∙ ap edit_of (sym first))
    (c.closed_at.ensures.elements ∙ c.collect.ensures ∙ ap (λ w. map (shown_at (slots_items c.settle-words.result.words)) (range_with_len 0 (size_of w))) (sym first))
