-- Proof of `KindVector::write_all`: writes values at indices in order, all of them or none.
use Rattle.std.proofs.Common.{ap}
use Rattle.lv_edits.specs.Batches.{writes_at}
use Rattle.lv_edits.specs.History.{History}
use Rattle.livevec_c.proofs.KindVectorLaws.{edited_kind_vector, kept_by_now, ready_followed}
use Rattle.livevec_c.proofs.WrittenLaws.{limits_kept_by}
use Rattle.livevec_c.proofs.kind_vectors.KindVector.write_all.Goals as goal

pub follow_waiting-requires : goal.follow_waiting-requires
follow_waiting-requires c = record { kept = kept_by_now c.self.inside.kinds.table c.view.result.cells.now.journal c.write_all_beside-answer.new.live.history.journal c.write_all_beside-answer.new.kinds (ap (λ (h : History). h.journal) c.view.ensures.cells) c.write_all_beside-answer.ensures.kept }

pub invariant_of-self : goal.invariant_of-self
invariant_of-self c =
    let told = c.write_all_beside-answer.ensures in
    let live = c.write_all_beside-answer.new.live in
    let ready = ready_followed c.self.inside.kinds.table c.view.result.cells.now.journal live.history.journal c.write_all_beside-answer.new.kinds c.follow_waiting.new.self (ap (λ (h : History). h.journal) c.view.ensures.cells) told.kept c.follow_waiting.ensures.kept c.follow_waiting.ensures.leaves in
    edited_kind_vector c.self.inside.limits c.self.inside.live live c.self.inside.kinds c.follow_waiting.new.self told.refresh.body
    (limits_kept_by _ _ (writes_at c.args.indices.now c.args.values.now) c.write_all_beside-answer.result told.answer) c.self.invariant ready
