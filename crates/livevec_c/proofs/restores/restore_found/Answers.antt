-- Proof of `restore_found`: puts a vector that is made anew from what was found of a text into an empty slot, if the text is a prefix of a
-- transcript.
use Rattle.std.proofs.Common.{List, subst}
use Rattle.lv_edits.specs.declared.edit.Edit.{Edit}
use Rattle.livevec_c.specs.Restores.{RestoresEdits}
use Rattle.livevec_c.proofs.RemadeLaws.{front_restored}
use Rattle.livevec_c.proofs.restores.restore_found.Goals as goal

pub returns-in-Front : goal.returns-in-Front
returns-in-Front c =
    let a = c.args in
    let slot = c.restore_edits-became.new.slot.raw.inner in
    let became = c.restore_edits-became.result in
    front_restored a.only a.limits a.found.edits.journal a.found.verdict c.in-Front.edits c.in-Front.answers c.restored_answer.result became slot c.in-Front.is c.restored_answer.ensures
    (subst (λ (js : List Edit). RestoresEdits a.only a.limits js became slot) c.journal.ensures.value c.restore_edits-became.ensures)
