-- Proof of `KindVector::push_all`: pushes values in order, all of them or none, and returns the number of the last edit.
use Rattle.std.proofs.Common.{ap}
use Rattle.lv_edits.specs.History.{History}
use Rattle.livevec_c.proofs.KindVectorLaws.{edited_kind_vector, kept_by_now, ready_followed}
use Rattle.livevec_c.proofs.PushedLaws.{limits_kept}
use Rattle.livevec_c.proofs.kind_vectors.KindVector.push_all.Goals as goal

pub follow_waiting-requires : goal.follow_waiting-requires
follow_waiting-requires c = record { kept = kept_by_now c.self.inside.kinds.table c.view.result.cells.now.journal c.push_all_beside-answer.new.live.history.journal c.push_all_beside-answer.new.kinds (ap (λ (h : History). h.journal) c.view.ensures.cells) c.push_all_beside-answer.ensures.kept }

pub invariant_of-self : goal.invariant_of-self
invariant_of-self c =
    let told = c.push_all_beside-answer.ensures in
    let live = c.push_all_beside-answer.new.live in
    let ready = ready_followed c.self.inside.kinds.table c.view.result.cells.now.journal live.history.journal c.push_all_beside-answer.new.kinds c.follow_waiting.new.self (ap (λ (h : History). h.journal) c.view.ensures.cells) told.kept c.follow_waiting.ensures.kept c.follow_waiting.ensures.leaves in
    edited_kind_vector c.self.inside.limits c.self.inside.live live c.self.inside.kinds c.follow_waiting.new.self told.refresh.body
    (limits_kept _ _ c.args.values.now c.push_all_beside-answer.result told.answer) c.self.invariant ready
