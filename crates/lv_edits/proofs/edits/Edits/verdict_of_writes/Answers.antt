-- Proof of `Edits::verdict_of_writes`: the error of the first write that would be rejected if writes were made at the indices one after
-- another and memory sufficed, or none.
use Rattle.std.proofs.Common.{◌≡◌, ℤ, List, ◌+◌, ◌-◌, ap, sym, ◌∙◌, length, arith}
use Rattle.lv_edits.specs.Batches.{verdict_of_edits, writes_at}
use Rattle.lv_edits.specs.Kept.{IsLegalInLimits}
use Rattle.lv_edits.proofs.BatchLaws.{verdict_by, verdict_by-end, verdict_by-in_at, verdict_by-out_at, verdict_by-worn_at, verdict_is}
use Rattle.lv_edits.proofs.edits.Edits.verdict_of_writes.Goals as goal
use Rattle.lv_edits.proofs.edits.Edits.verdict_of_writes.Goals.{After-size-size}

-- how many edits are left, as the history tells
left_is : (c : After-size-size) → (length c.args.self.now.journal + (c.edits.result - c.edit.result) ≡ c.args.self.now.limits.edits)
left_is c =
    let kept : IsLegalInLimits c.args.self.now = c.size-size.ensures.limits in
    omega (arith, c.edits.ensures.value, c.edit.ensures.value, kept.edits, ap (λ l. l.edits) c.limits.ensures, ap (λ h. h.limits.edits) c.self.view_is)

-- what the history says of the writes, by how many edits are left and by the size
judged : (c : After-size-size) → (xs : List ℤ) → length c.args.indices.now ≡ length xs → verdict_by (c.edits.result - c.edit.result) c.size-size.result c.args.indices.now ≡ verdict_of_edits c.args.self.now (writes_at c.args.indices.now xs)
judged c xs paired =
    ap (λ n. verdict_by (c.edits.result - c.edit.result) n c.args.indices.now) c.size-size.ensures.value ∙ verdict_is (c.edits.result - c.edit.result) c.args.self.now c.args.indices.now xs c.size-size.ensures.limits.legal (left_is c) paired

pub loop-place-init : goal.loop-place-init
loop-place-init c = record { within = omega arith; judged = ap (λ n. verdict_by n c.size-size.result c.args.indices.now) (omega arith) }

pub loop-place-preserved : goal.loop-place-preserved
loop-place-preserved c =
    let left = c.edits.result - c.edit.result in
    record {
      within = omega (arith, c.loop-place.invariant.within, c.if-place-left.false);
      judged = c.loop-place.invariant.judged ∙ verdict_by-in_at left c.size-size.result c.loop-place.place c.args.indices.now (omega (arith, c.loop-place.invariant.within, c.if-place-left.false)) c.loop-place-test.true c.if-indices-place.false;
    }

pub returns-then-place-left : goal.returns-then-place-left
returns-then-place-left c xs paired =
    let left = c.edits.result - c.edit.result in
    sym (verdict_by-worn_at left c.size-size.result c.loop-place.place c.args.indices.now (sym c.if-place-left.true) c.loop-place-test.true) ∙ sym c.loop-place.invariant.judged ∙ judged (goal.at.returns-then-place-left c).After-size-size xs paired

pub returns-then-indices-place : goal.returns-then-indices-place
returns-then-indices-place c xs paired =
    let left = c.edits.result - c.edit.result in
    sym (verdict_by-out_at left c.size-size.result c.loop-place.place c.args.indices.now (omega (arith, c.loop-place.invariant.within, c.if-place-left.false)) c.loop-place-test.true c.if-indices-place.true) ∙ sym c.loop-place.invariant.judged ∙ judged (goal.at.returns-then-indices-place c).After-size-size xs paired

pub returns : goal.returns
returns c xs paired =
    let left = c.edits.result - c.edit.result in
    sym (verdict_by-end left c.size-size.result c.loop-place.place c.args.indices.now (omega (arith, c.loop-place-test.false))) ∙ sym c.loop-place.invariant.judged ∙ judged (goal.at.returns c).After-size-size xs paired
