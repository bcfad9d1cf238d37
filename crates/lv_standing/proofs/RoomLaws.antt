-- How long a vector is after an edit, so that room for what may be asked of it can be made before.
use Rattle.std.proofs.Common.{◌≡◌, ℤ, ◌-◌, ◌≤◌, Some, None, List, [], ◌∷◌, ◌++◌, length, sym, ap, ◌∙◌, arith}
use Rattle.std.proofs.lemmas.List.{length-set, length-take, length_push}
use Rattle.std.proofs.lemmas.List.Edits.{length-swap}
use Rattle.std.proofs.lemmas.Option.{cond_some, same_Some}
use Rattle.lv_geometry.specs.Bounds.{Bounds}
use Rattle.lv_geometry.proofs.Capacities.{capacity_of_most}
use Rattle.lv_edits.specs.declared.edit.Edit.{Edit}
use Rattle.lv_edits.specs.declared.edit.Edit.TheVariants.{Push, Pop, Write, Reserve, Swap, Truncate}
use Rattle.lv_edits.specs.History.{History, applied, list_of}
use Rattle.lv_edits.specs.Kept.{IsLegalInLimits}
use Rattle.lv_edits.specs.Verdict.{refused_on, verdict_of}
use Rattle.lv_edits.proofs.HistoryLaws.{accepted_is_possible, applied_pop, applied_write, length_after, list_of-snoc, not_refused, unrefused_pop, unrefused_truncate, unrefused_write}
use Rattle.lv_standing.specs.Inner.{size_after}

-- how long a list is after an edit that nothing refuses
length_by_edit : (limits : Bounds) (xs ys : List ℤ) (e : Edit) → refused_on limits xs e ≡ None → applied xs e ≡ Some ys → length ys ≡ size_after (length xs) e
length_by_edit limits xs ys (Push x) free made = omega (arith, ap length (same_Some _ _ made), length_push xs x)
length_by_edit limits xs ys Pop free made = omega (arith, ap length (same_Some _ _ (sym (applied_pop xs (unrefused_pop limits xs free)) ∙ made)), length-take (length xs - 1) xs)
length_by_edit limits xs ys (Write i x) free made = omega (arith, ap length (same_Some _ _ (sym (applied_write xs i x (unrefused_write limits xs i x free)) ∙ made)), length-set xs i x)
length_by_edit limits xs ys (Reserve n) free made = ap length (sym (same_Some _ _ made))
length_by_edit limits xs ys (Swap i j) free made = ap length (sym (cond_some _ _ _ made).1) ∙ length-swap xs i j
length_by_edit limits xs ys (Truncate n) free made = omega (arith, ap length (cond_some _ _ _ made).1, length-take n xs, unrefused_truncate limits xs n free)

-- a vector is as long as that after an accepted edit, which is no longer than a vector may be
pub size_by_edit : (h : History) (e : Edit) → IsLegalInLimits h → verdict_of h.limits h.journal e ≡ None
    → (length (list_of (h.journal ++ e ∷ [])) ≡ size_after (length (list_of h.journal)) e) × (size_after (length (list_of h.journal)) e ≤ 1048568)
size_by_edit h e within accepted =
    let xs = list_of h.journal in
    let next = accepted_is_possible h.limits h.journal e accepted in
    let free = (not_refused h.limits h.journal e accepted).1 in
    let long : length next.0 ≡ size_after (length xs) e = length_by_edit h.limits xs next.0 e free next.1 in (
      ap length (list_of-snoc h.journal e next.0 within.legal next.1).1 ∙ long,
      omega (arith, long, length_after h.limits xs next.0 e free next.1 within.size, capacity_of_most h.limits.buckets within.allowed.few_buckets),
    )
