-- Proof of `Hub::try_edit`: makes an update as `edit` does.
use Rattle.lv_hub.proofs.ToldLaws.{edit_told}
use Rattle.lv_hub.proofs.hubs.Hub.try_edit.Goals as goal

-- the lock had the vector before it
pub returns-clause-told : goal.returns-clause-told
returns-clause-told g c =
    edit_told _ _ _ _ _ _ _ c.edit-answer.ensures.within c.edit-answer.ensures.begins c.edit-answer.ensures.seen c.edit-answer.ensures.answer
