-- A store that holds what a journal leaves goes on to hold it through many pushes at once.
use Rattle.std.proofs.Common.{◌≡◌, ℕ, ℤ, ◌+◌, ◌≤◌, max, All, None, Result, List, length, ◌++◌, inr, refl, sym, ap, subst, ◌∙◌, arith}
use Rattle.std.specs.Prelude.{IsErrAnd}
use Rattle.std.proofs.lemmas.Result.{err_from_is_err_and}
use Rattle.lv_geometry.specs.Bounds.{Bounds}
use Rattle.lv_geometry.specs.Cells.{AreFewest, capacity_of}
use Rattle.lv_geometry.specs.Elements.{IsElement}
use Rattle.lv_geometry.specs.declared.refusals.Refusal.{Refusal}
use Rattle.lv_geometry.specs.declared.refusals.Refusal.TheVariants.{NoMemory}
use Rattle.lv_geometry.proofs.Capacities.{capacity_of_most}
use Rattle.lv_store.specs.Inner.{IsStore}
use Rattle.lv_store.specs.State.{AreAlike, StoreState, pushed_all}
use Rattle.lv_store.proofs.ElementsLaws.{elements_alike}
use Rattle.lv_store.proofs.PushLaws.{pushed_all_has, pushed_all_is, with_all}
use Rattle.lv_edits.specs.declared.edit.Edit.{Edit}
use Rattle.lv_edits.specs.History.{History, list_of}
use Rattle.lv_edits.specs.Inner.{AreNeeded, HoldsReplay, history_of}
use Rattle.lv_edits.specs.Kept.{IsLegalInLimits}
use Rattle.lv_edits.specs.Pushes.{AnswersAll, verdict_of_pushes, with_pushes}
use Rattle.lv_edits.proofs.CapacityLaws.{fewest_within}
use Rattle.lv_edits.proofs.HoldsLaws.{none_pending, size_held}
use Rattle.lv_edits.proofs.PushLaws.{AreNeeded-pushes, IsLegalInLimits-pushes, MadeByPushes, keeps_limits, made_by_pushes}

-- pushes whose only error is `NoMemory` leave the history as it was on that error, if the store reads the same
pub AnswersAll-no_memory : (s m : StoreState) (journal : List Edit) (xs : List ℤ) (r : Result ℕ Refusal) (why : Refusal) → verdict_of_pushes (history_of s journal) xs ≡ None → AreAlike s m → why ≡ NoMemory → IsErrAnd r (λ refusal. refusal ≡ why) → AnswersAll (history_of s journal) xs r (history_of m journal)
AnswersAll-no_memory s m journal xs r why free alike is failed =
    let (refusal, refused, given) = err_from_is_err_and r failed in
    rw refused record { verdict = inr (free, given ∙ is); same = rw alike.limits refl }

-- what accepted pushes make of the history
pub pushes_made : (s : StoreState) (journal : List Edit) (xs : List ℤ) → HoldsReplay s journal → verdict_of_pushes (history_of s journal) xs ≡ None → MadeByPushes (history_of s journal) (with_pushes (history_of s journal) xs) xs
pushes_made s journal xs held free = made_by_pushes (history_of s journal) xs (keeps_limits _ held.kept) free

-- they have room within the limits
pub pushes_fit : (s : StoreState) (journal : List Edit) (xs : List ℤ) → HoldsReplay s journal → verdict_of_pushes (history_of s journal) xs ≡ None → (s.descriptor.size + length xs ≤ capacity_of s.limits.buckets) × (s.descriptor.edit + length xs ≤ s.limits.edits) × (s.descriptor.size + length xs ≤ 1048568)
pushes_fit s journal xs held free =
    let made = pushes_made s journal xs held free in
    let limits = ap (λ b. b.buckets) made.limits in
    let most = ap (λ b. b.edits) made.limits in
    let size : s.descriptor.size + length xs ≤ capacity_of s.limits.buckets = omega (arith, size_held s journal held, made.size, made.kept.size, ap capacity_of limits) in
    (size, omega (arith, held.edit, made.edits, made.kept.edits, most), omega (arith, size, capacity_of_most s.limits.buckets held.sound.allowed.few_buckets))

-- and are held once they are made at a store that reads alike, with the cells open that they need
pub pushes_held : (s m : StoreState) (journal : List Edit) (xs : List ℤ) → HoldsReplay s journal → verdict_of_pushes (history_of s journal) xs ≡ None → All IsElement xs → AreAlike s m → m.descriptor.pending ≡ None → ((k : ℕ) → AreFewest (s.descriptor.size + length xs) k → m.buckets ≡ max s.buckets k) → IsStore m → s.descriptor.size + length xs ≤ capacity_of m.buckets → HoldsReplay (pushed_all m xs) (with_pushes (history_of s journal) xs).journal
pushes_held s m journal xs held free fits alike settled opens sound room =
    let h = history_of s journal in
    let made = pushes_made s journal xs held free in
    let fit = pushes_fit s journal xs held free in
    let t = pushed_all m xs in
    let is : t ≡ with_all m xs = pushed_all_is m xs settled in
    let has = pushed_all_has m xs sound settled (omega (arith, fit.1, alike.edit, ap (λ b. b.edits) alike.limits)) (omega (arith, room, alike.size)) fits in
    let limits : t.limits ≡ s.limits = ap (λ u. u.limits) is ∙ alike.limits in
    let fewest = fewest_within (s.descriptor.size + length xs) s.limits.buckets fit.0 in
    let buckets : t.buckets ≡ max s.buckets fewest.0 = ap (λ u. u.buckets) is ∙ opens fewest.0 fewest.2 in
    let count : s.descriptor.size + length xs ≡ length (list_of journal) + length xs = ap (λ n. n + length xs) (size_held s journal held) in
    record {
      sound = has.sound;
      kept = subst (λ l. IsLegalInLimits record { limits = l; journal = (with_pushes h xs).journal }) (made.limits ∙ sym limits) (IsLegalInLimits-pushes h xs held.kept free fits);
      items = has.elements ∙ ap (λ ys. ys ++ xs) (elements_alike s m alike ∙ held.items) ∙ sym made.list;
      needed = subst (AreNeeded (with_pushes h xs).journal) (sym buckets) (AreNeeded-pushes h xs s.buckets fewest.0 (keeps_limits h held.kept) free held.needed (subst (λ n. AreFewest n fewest.0) count fewest.2));
      edit = ap (λ u. u.descriptor.edit) is ∙ ap (λ n. n + length xs) (alike.edit ∙ held.edit) ∙ sym made.edits;
      pending = none_pending t _ (ap (λ u. u.descriptor.pending) is);
    }

-- a history equals the record of its fields
pub history_is : (h : History) (limits : Bounds) (journal : List Edit) → limits ≡ h.limits → journal ≡ h.journal → record { limits = limits; journal = journal } ≡ h
history_is h limits journal of here = rw (of, here) refl
