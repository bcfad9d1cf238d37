-- Proof of `Hub::edit`: makes an update, and counts it on the share if it is accepted.
use Rattle.lv_hub.proofs.ToldLaws.{edit_number, edit_told}
use Rattle.lv_hub.proofs.hubs.Hub.edit.Goals as goal

-- the lock had the vector before it
pub returns-clause-told : goal.returns-clause-told
returns-clause-told g c =
    edit_told _ _ _ _ _ _ _ c.edit-answer.ensures.within c.edit-answer.ensures.begins c.edit-answer.ensures.seen c.edit-answer.ensures.answer

pub returns-clause-number : goal.returns-clause-number
returns-clause-number g c = edit_number g.N.Naming.limits _ _ _ c.edit-answer.ensures.seen c.edit-answer.ensures.number
