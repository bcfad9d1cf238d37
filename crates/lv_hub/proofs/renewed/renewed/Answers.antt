-- Proof of `renewed`: a vector that has these elements, each as a push, and no tree yet for any kind.
use Rattle.std.proofs.Common.{◌∙◌, [], ap, subst, sym}
use Rattle.lv_edits.specs.Pushes.{with_pushes}
use Rattle.lv_edits.proofs.PushLaws.{keeps_limits}
use Rattle.lv_transcript.specs.Transcript.{AreAccepted, greatest}
use Rattle.lv_tree.specs.Kinds.{AreKept, AreReady}
use Rattle.lv_tree.proofs.KeptLaws.{AreReady-new}
use Rattle.lv_hub.proofs.AcceptedLaws.{pushes_accepted, with_pushes_is}
use Rattle.lv_hub.proofs.renewed.renewed.Goals as goal

pub push_all_beside-requires-clause-kept : goal.push_all_beside-requires-clause-kept
push_all_beside-requires-clause-kept g c = λ _ _.
    let kinds = c.new-kinds in
    let kept = subst (λ t. AreKept t [] kinds.result) (sym kinds.ensures.table) kinds.ensures.kept in
    subst (λ es. AreReady kinds.result.table es kinds.result) (sym (ap (λ h. h.journal) c.new-live.ensures.history)) (AreReady-new kinds.result.table kinds.result kept)

pub returns-in-Ok-clause-history : goal.returns-in-Ok-clause-history
returns-in-Ok-clause-history g c =
    let made = c.in-Ok.ensures.answer in
    made.journal ∙ ap (λ h. with_pushes h c.args.elements.now) c.new-live.ensures.history ∙ with_pushes_is c.args.limits [] c.args.elements.now

pub returns-in-Ok-clause-accepted : goal.returns-in-Ok-clause-accepted
returns-in-Ok-clause-accepted g c =
    let made = c.in-Ok.ensures.answer in
    let within = c.new-live.ensures.limits in
    let none = subst (λ h. AreAccepted greatest h.journal) (sym c.new-live.ensures.history) tt in
    subst (λ h. AreAccepted greatest h.journal) (sym made.journal) (pushes_accepted c.new-live.result.history c.args.elements.now within.allowed (keeps_limits c.new-live.result.history within) made.verdict none)
