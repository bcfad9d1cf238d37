-- Proof of `Edits::verdict_of_pushes`: the error of the first push that would be rejected if the values were pushed one after another and
-- memory sufficed, or none.
use Rattle.std.proofs.Common.{ap, arith, sym}
use Rattle.lv_geometry.specs.Cells.{capacity_of}
use Rattle.lv_edits.specs.Kept.{IsLegalInLimits}
use Rattle.lv_edits.proofs.PushLaws.{full_first, keeps_limits, none_refused, worn_first}
use Rattle.lv_edits.proofs.edits.Edits.verdict_of_pushes.Goals as goal

pub returns-then-values-min : goal.returns-then-values-min
returns-then-values-min c =
    let h = c.args.self.now in
    let kept : IsLegalInLimits h = rw (← c.self.view_is) c.self.invariant.kept in
    let most = ap (λ l. l.edits) c.limits-limits.ensures in
    let all = ap (λ l. capacity_of l.buckets) c.limits-limits.ensures in
    let of_edits = ap (λ h. h.limits.edits) c.self.view_is in
    let of_cells = ap (λ h. capacity_of h.limits.buckets) c.self.view_is in
    sym (none_refused h c.args.values.now (keeps_limits h kept) (omega (arith, c.if-values-min.true, c.min.ensures, c.edits.ensures.value, c.edit.ensures.value, c.capacity.ensures.value, c.size.ensures.value, most, all, of_edits, of_cells, kept.edits, kept.size)) (omega (arith, c.if-values-min.true, c.min.ensures, c.edits.ensures.value, c.edit.ensures.value, c.capacity.ensures.value, c.size.ensures.value, most, all, of_edits, of_cells, kept.edits, kept.size)))

pub returns-then-edits-cells : goal.returns-then-edits-cells
returns-then-edits-cells c =
    let h = c.args.self.now in
    let kept : IsLegalInLimits h = rw (← c.self.view_is) c.self.invariant.kept in
    let most = ap (λ l. l.edits) c.limits-limits.ensures in
    let all = ap (λ l. capacity_of l.buckets) c.limits-limits.ensures in
    let of_edits = ap (λ h. h.limits.edits) c.self.view_is in
    let of_cells = ap (λ h. capacity_of h.limits.buckets) c.self.view_is in
    sym (worn_first h c.args.values.now (keeps_limits h kept) (omega (arith, c.if-values-min.false, c.if-edits-cells.true, c.min.ensures, c.edits.ensures.value, c.edit.ensures.value, c.capacity.ensures.value, c.size.ensures.value, most, all, of_edits, of_cells, kept.edits, kept.size)) (omega (arith, c.if-edits-cells.true, c.min.ensures, c.edits.ensures.value, c.edit.ensures.value, c.capacity.ensures.value, c.size.ensures.value, most, all, of_edits, of_cells, kept.edits, kept.size)))

pub returns-else-edits-cells : goal.returns-else-edits-cells
returns-else-edits-cells c =
    let h = c.args.self.now in
    let kept : IsLegalInLimits h = rw (← c.self.view_is) c.self.invariant.kept in
    let most = ap (λ l. l.edits) c.limits-limits.ensures in
    let all = ap (λ l. capacity_of l.buckets) c.limits-limits.ensures in
    let of_edits = ap (λ h. h.limits.edits) c.self.view_is in
    let of_cells = ap (λ h. capacity_of h.limits.buckets) c.self.view_is in
    sym (full_first h c.args.values.now (keeps_limits h kept) (omega (arith, c.if-values-min.false, c.if-edits-cells.false, c.min.ensures, c.edits.ensures.value, c.edit.ensures.value, c.capacity.ensures.value, c.size.ensures.value, most, all, of_edits, of_cells, kept.edits, kept.size)) (omega (arith, c.if-edits-cells.false, c.min.ensures, c.edits.ensures.value, c.edit.ensures.value, c.capacity.ensures.value, c.size.ensures.value, most, all, of_edits, of_cells, kept.edits, kept.size)))
