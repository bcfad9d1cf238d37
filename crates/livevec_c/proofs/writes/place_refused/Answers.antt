-- Proof of `place_refused`: the place of the first of some writes, one after another, that would be refused for another reason than out of memory;
-- 0 if none would be.
use Rattle.std.proofs.Common.{◌≡◌, ℤ, List, ap, subst, sym, ◌∙◌, length, cond, is_some, arith}
use Rattle.lv_edits.specs.Batches.{writes_at}
use Rattle.lv_edits.specs.History.{list_of}
use Rattle.lv_edits.specs.Kept.{IsLegalInLimits}
use Rattle.lv_edits.proofs.BatchLaws.{verdict_by}
use Rattle.livevec_c.specs.Behind.{State}
use Rattle.livevec_c.specs.Written.{place_refused}
use Rattle.livevec_c.proofs.WrittenLaws.{accepted_by, free_before_first, free_before_next, place_is, place_none, place_out, place_worn}
use Rattle.livevec_c.proofs.writes.place_refused.Goals as goal
use Rattle.livevec_c.proofs.writes.place_refused.Goals.{After-size-size}

-- what the history says, by how many edits are left and by the size
told : (c : After-size-size) → (xs : List ℤ) → length c.args.indices.now ≡ length xs
    → cond (is_some (verdict_by c.edits_left-left.result c.size-size.result c.args.indices.now)) (accepted_by c.edits_left-left.result c.size-size.result c.args.indices.now) 0 ≡ place_refused c.args.vector.now.history (writes_at c.args.indices.now xs)
told c xs paired =
    let left = c.edits_left-left.result in
    let is = c.args.indices.now in
    let kept : IsLegalInLimits c.args.vector.now.history = subst (λ (s : State). IsLegalInLimits s.history) c.live-live.ensures c.keeps.ensures.limits in
    let size = c.size-size.ensures ∙ ap (λ (s : State). length (list_of s.history.journal)) c.live-live.ensures in
    ap (λ n. cond (is_some (verdict_by left n is)) (accepted_by left n is) 0) size
    ∙ place_is left c.args.vector.now.history is xs kept.legal (omega (arith, c.edits_left-left.ensures, kept.edits)) paired

pub loop-place-init : goal.loop-place-init
loop-place-init c = free_before_first _ _ c.args.indices.now

pub loop-place-preserved : goal.loop-place-preserved
loop-place-preserved c = free_before_next _ _ c.loop-place.place c.args.indices.now c.if-place-left.false c.loop-place-test.true c.if-indices-place.false c.loop-place.invariant

pub returns-then-place-left : goal.returns-then-place-left
returns-then-place-left c xs paired =
    sym (place_worn _ _ c.loop-place.place c.args.indices.now c.if-place-left.true c.loop-place-test.true c.loop-place.invariant) ∙ told (goal.at.returns-then-place-left c).After-size-size xs paired

pub returns-then-indices-place : goal.returns-then-indices-place
returns-then-indices-place c xs paired =
    sym (place_out _ _ c.loop-place.place c.args.indices.now c.if-place-left.false c.loop-place-test.true c.if-indices-place.true c.loop-place.invariant) ∙ told (goal.at.returns-then-indices-place c).After-size-size xs paired

pub returns : goal.returns
returns c xs paired =
    sym (place_none _ _ c.loop-place.place c.args.indices.now c.loop-place-test.false c.loop-place.invariant) ∙ told (goal.at.returns c).After-size-size xs paired
