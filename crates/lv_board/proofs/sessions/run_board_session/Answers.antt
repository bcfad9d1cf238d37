-- Proof of `run_board_session`: answers the lines of a session with a seat: pushes, pops, writes, reads, sizes, reductions by the board's kind
-- and refreshes, with one try each.
use Rattle.std.proofs.Common.{◌∙◌}
use Rattle.lv_machine.specs.declared.events.Call.{Call}
use Rattle.lv_lines.specs.declared.lines.Line.{Line}
use Rattle.lv_board.specs.Answerer.{IsAnswered}
use Rattle.lv_board.specs.Rule.{terms_of}
use Rattle.lv_board.proofs.Opens.{are_terms}
use Rattle.lv_board.proofs.PlainBoards.{session_plain}
use Rattle.lv_board.proofs.Sent.{IsSend-prop, IsSync-prop, surely}
use Rattle.lv_board.proofs.Sittings.{of_call}
use Rattle.lv_board.proofs.sessions.run_board_session.Goals as goal

pub hold-requires-clause-ready : goal.hold-requires-clause-ready
hold-requires-clause-ready g c κs within s n line held stays room = ∣ (λ p q at is. surely g.row.B.coded _ _ _ _ _ (hlevel (IsSend-prop, IsSync-prop))
    (rw at (record { at = stays.table ∙ c.requires.here.at; terms = stays.terms ∙ c.requires.here.terms }), (rw is room, (c.type_bounds.send-B, record { owned = c.type_bounds.send-B-S.owned; leaving = c.type_bounds.send-B-S.leaving }, c.type_bounds.sync-B, record { shared = c.type_bounds.sync-B-S.shared })))) ∣₁

pub hold-requires-clause-right : goal.hold-requires-clause-right
hold-requires-clause-right g c κs within s n line held u left done =
    rw c.requires.here.terms (of_call (λ s n line held u left. Line Call × IsAnswered g.B.BoardBody.folding g.B.Body.operations g.B.Single.the_kind g.B.Single.shown_as c.args.board.now.terms s n line held u left) s n line held u left done).1

pub returns-clause-lines_served : goal.returns-clause-lines_served
returns-clause-lines_served g c = rw c.requires.here.terms at c.hold.ensures.lines_served

pub returns-clause-plain : goal.returns-clause-plain
returns-clause-plain g c =
    let board = c.args.board.now in
    session_plain (terms_of g.B.BoardBody.folding board.terms) (g.B.Body.operations board.terms.body) g.B.Single.the_kind (g.B.Single.shown_as board.terms.body) (g.B.Single.plain board.terms.body)
    (are_terms g.B.BoardBody.folding g.B.Parted.PARTS g.B.Parted.parts_of g.B.Body.operations board.terms (g.met.B.BoardBody g.world.𝓛 g.world.𝓜 g.world.𝓡 ((λ s x. x), (λ p. p), (λ n s. n s), (λ p. p))).keeps_parts g.B.Parted.some.1 g.B.Parted.are_parts board.basis)
    ((g.met.B.Single g.world.𝓛 g.world.𝓜 g.world.𝓡 ((λ s x. x), (λ p. p), (λ n s. n s), (λ p. p))).shows_plain board.terms.body)
    _ _ _ _ _ _ _ (rw c.requires.here.terms at c.hold.ensures.lines_served)
