-- Proof of `Standing::edit_into`: kinds that no query is of are left, or follow all edits.
use Rattle.lv_standing.proofs.UnaskedLaws.{LeavesUnasked-follows, LeavesUnasked-left}
use Rattle.lv_standing.proofs.standing.Standing.edit_into.Goals as goal

pub returns-in_err-receipt-clause-others : goal.returns-in_err-receipt-clause-others
returns-in_err-receipt-clause-others c =
    rw (← c.self.view_is) (LeavesUnasked-left c.edit_noted.new.live.history.journal c.self.inside.set.queries c.self.inside.kinds c.edit_noted.new.kinds c.edit_noted.ensures.others)

pub returns-clause-others : goal.returns-clause-others
returns-clause-others c =
    let leaves = rw c.view.ensures.cells at c.follow_waiting.ensures.leaves in
    rw (← c.self.view_is)
    (LeavesUnasked-follows c.edit_noted.new.live.history.journal c.self.inside.set.queries c.self.inside.kinds c.edit_noted.new.kinds c.follow_waiting.new.self c.edit_noted.ensures.others leaves)
