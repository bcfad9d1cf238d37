-- Proof of `Board::settle`: the last words, which show what all seats know.
use Rattle.std.proofs.Common.{sym, ap, ◌∙◌, map, arith}
use Rattle.std.specs.Prelude.{Some}
use Rattle.std.specs.Mem.Slots.{slots_items}
use Rattle.std.proofs.lemmas.List.Elements.{All-pop}
use Rattle.lv_board.specs.Tells.{actor_of, IsAt}
use Rattle.lv_board.proofs.Closes.{none_gathered, settles, settles_alone}
use Rattle.lv_board.proofs.board.Board.settle.Goals as goal

pub returns-in_default-clause-settled : goal.returns-in_default-clause-settled
returns-in_default-clause-settled g c = settles_alone g.B.BoardBody.folding c.args.self.terms c.args.self.table.shared.key c.args.self.key (map actor_of c.args.seats.items) (slots_items c.close.result.words) (slots_items c.close.result.slots) (none_gathered c.args.seats.items (omega (arith, c.args.seats.ok, c.in_default.ensures.cases.0))) c.close.ensures.values.2

pub gather-token-requires-clause-last : goal.gather-token-requires-clause-last
gather-token-requires-clause-last g c κs within = (All-pop (IsAt c.args.self.table.shared.table_id c.args.self.terms) c.args.seats.items c.pop.new.self.items (Some c.in-Some.last) c.in-Some.ensures.items c.requires.at).1

pub gather-token-requires-clause-at : goal.gather-token-requires-clause-at
gather-token-requires-clause-at g c κs within = (All-pop (IsAt c.args.self.table.shared.table_id c.args.self.terms) c.args.seats.items c.pop.new.self.items (Some c.in-Some.last) c.in-Some.ensures.items c.requires.at).0

pub returns-clause-settled : goal.returns-clause-settled
returns-clause-settled g c =
    settles g.B.BoardBody.folding c.args.self.terms c.args.self.table.shared.key c.args.self.key c.gather-token.result.id c.gather-token.result.me.0 (map actor_of c.args.seats.items) (slots_items c.close_with.result.words) (slots_items c.close_with.result.slots) c.gather-token.ensures.sits
    (c.gather-token.ensures.actors ∙ ap (map actor_of) (sym c.in-Some.ensures.items)) c.close_with.ensures.values.2
