-- Proof of `Queue::first_edit`: the edit of the first answer, which none is below.
use Rattle.std.proofs.Common.{◌≡◌, ◌<◌, List, get_or, length, subst, sym}
use Rattle.std.proofs.lemmas.Bool.{ltb-true}
use Rattle.lv_transcript.specs.declared.claimed.Claimed.{Claimed}
use Rattle.lv_transcript.specs.LeastFirst.{BeginsAt}
use Rattle.lv_transcript.proofs.JoinedAnswers.{begins_there}
use Rattle.lv_transcript.proofs.queues.Queue.first_edit.Goals as goal

-- what is left of answers in order begins with the least
pub returns-in-Some : goal.returns-in-Some
returns-in-Some c =
    let answers = c.self.inside.answers.items in
    let taken = c.self.inside.taken in
    let answer = c.in-Some.answer.now in
    let found = c.in-Some.ensures.lookup in
    let within = subst (λ (answers : List Claimed). taken < length answers) c.as_slice.ensures.value (ltb-true taken (length c.as_slice.result.now) (sym found.0)) in
    let at = subst (λ (answers : List Claimed). answer ≡ get_or answers taken answer) c.as_slice.ensures.value found.1 in
    subst (BeginsAt answer.edit) c.self.view_is (begins_there answers taken answer c.self.invariant within at)
