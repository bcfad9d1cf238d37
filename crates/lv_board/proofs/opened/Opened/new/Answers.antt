-- Proof of `Opened::new`: a board with no updates, to be shared, with all its seats.
use Rattle.std.proofs.Common.{sym, ap, ◌∙◌}
use Rattle.lv_board.specs.declared.actors.Basis.{Basis}
use Rattle.lv_board.proofs.Ordered.{dealt_order}
use Rattle.lv_board.proofs.Sharings.{lacks_memory, newly_shared}
use Rattle.lv_board.proofs.opened.Opened.new.Goals as goal

pub share-requires-clause-order : goal.share-requires-clause-order
share-requires-clause-order g c = λ _ _.
    let made = c.in-Ok.ensures in
    dealt_order c.in-Ok.board.table.shared.table_id c.in-Ok.board.terms c.in-Ok.seats.items (made.count ∙ sym (ap (λ (z : Basis g.row.B.Denot). z.seats) made.basis)) made.dealt

pub returns-in-Ok-clause-ok : goal.returns-in-Ok-clause-ok
returns-in-Ok-clause-ok g c =
    let made = c.in-Ok.ensures in
    newly_shared g.B.BoardBody.folding g.B.Single.the_kind g.B.Single.plain c.args.limits c.args.seats c.args.stamp c.args.body c.in-Ok.board c.in-Ok.seats.items c.share.result made.allowed made.basis made.count made.dealt c.share.ensures.ok

pub returns-in-Err-clause-ok : goal.returns-in-Err-clause-ok
returns-in-Err-clause-ok g c = tt

pub returns-in-Err-clause-err : goal.returns-in-Err-clause-err
returns-in-Err-clause-err g c = c.in-Err.ensures.err

pub returns-in-Ok-clause-err : goal.returns-in-Ok-clause-err
returns-in-Ok-clause-err g c = lacks_memory c.args.limits c.args.seats c.share.result c.in-Ok.ensures.allowed c.share.ensures.err
