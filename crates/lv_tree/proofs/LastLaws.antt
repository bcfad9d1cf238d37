-- The sum that was returned last: when it stays, and how a write changes it.
use Rattle.std.proofs.Common.{◌≡◌, ℕ, ℤ, ◌+◌, ◌-◌, ◌%◌, ◌^◌, ◌<◌, ◌≤◌, ◌⊎◌, Some, List, [], ◌∷◌, ◌++◌, length, take, slice_set, slice_range, refl, sym, ap, subst, ◌∙◌, inl, inr, arith}
use Rattle.std.proofs.lemmas.List.{length-set, length-take, length_push}
use Rattle.std.proofs.lemmas.Option.{cond_some, same_Some}
use Rattle.lv_bodies.specs.Body.{fold_of}
use Rattle.lv_bodies.specs.Sums.{sum_operations}
use Rattle.lv_edits.specs.declared.edit.Edit.{Edit}
use Rattle.lv_edits.specs.declared.edit.Edit.TheVariants.{Push, Reserve, Truncate, Write}
use Rattle.lv_edits.specs.History.{History, list_of, replayed}
use Rattle.lv_edits.proofs.HistoryLaws.{applied_write, legal_before, list_of-snoc}
use Rattle.lv_edits.proofs.Slices.{part_of_push, part_of_set, part_of_take}
use Rattle.lv_tree.specs.declared.last_sum.LastSum.{LastSum}
use Rattle.lv_tree.specs.LastSum.{IsDifference, IsSumOfRange, IsWriteOver}
use Rattle.lv_tree.proofs.SumLaws.{part_over}

-- the sum of no elements is one of every vector
pub none_is : (edits : List Edit) (last : LastSum) → last ≡ record { lo = 0; hi = 0; value = 0 } → IsSumOfRange edits last
none_is edits last none =
    subst (IsSumOfRange edits) (sym none) record { order = omega arith; inside = omega arith; value_is = refl }

-- a sum stays if its range has the same elements
stays : (edits more : List Edit) (last : LastSum) → IsSumOfRange edits last → last.hi ≤ length (list_of more) → slice_range (list_of more) last.lo last.hi ≡ slice_range (list_of edits) last.lo last.hi → IsSumOfRange more last
stays edits more last is inside same = record { order = is.order; inside = inside; value_is = is.value_is ∙ ap (fold_of sum_operations) (sym same) }

module _ (edits : List Edit) (last : LastSum) (is : IsSumOfRange edits last) where
  pub stays_pushed : (x : ℤ) → replayed (edits ++ Push x ∷ []) ≡ Some (list_of (edits ++ Push x ∷ [])) → IsSumOfRange (edits ++ Push x ∷ []) last
  stays_pushed x legal =
      let xs = list_of edits in
      let made : xs ++ x ∷ [] ≡ list_of (edits ++ Push x ∷ []) = same_Some _ _ (legal_before edits (Push x) legal).1 in
      stays edits (edits ++ Push x ∷ []) last is (omega (arith, is.inside, ap length made, length_push xs x))
      (ap (λ l. slice_range l last.lo last.hi) (sym made) ∙ part_of_push xs x last.lo (last.hi - last.lo) (omega (arith, is.order, is.inside)))

  pub stays_reserved : (n : ℕ) → replayed (edits ++ Reserve n ∷ []) ≡ Some (list_of (edits ++ Reserve n ∷ [])) → IsSumOfRange (edits ++ Reserve n ∷ []) last
  stays_reserved n legal =
      let made : list_of edits ≡ list_of (edits ++ Reserve n ∷ []) = same_Some _ _ (legal_before edits (Reserve n) legal).1 in
      stays edits (edits ++ Reserve n ∷ []) last is (omega (arith, is.inside, ap length made)) (ap (λ l. slice_range l last.lo last.hi) (sym made))

  pub stays_truncated : (n : ℕ) → replayed (edits ++ Truncate n ∷ []) ≡ Some (list_of (edits ++ Truncate n ∷ [])) → last.hi ≤ n → IsSumOfRange (edits ++ Truncate n ∷ []) last
  stays_truncated n legal within =
      let xs = list_of edits in
      let made : take n xs ≡ list_of (edits ++ Truncate n ∷ []) = (cond_some _ _ _ (legal_before edits (Truncate n) legal).1).1 in
      stays edits (edits ++ Truncate n ∷ []) last is (omega (arith, is.inside, within, ap length made, length-take n xs))
      (ap (λ l. slice_range l last.lo last.hi) (sym made) ∙ part_of_take xs n last.lo (last.hi - last.lo) (omega (arith, is.order, within)))

module _ (h : History) (i : ℕ) (before x : ℤ) (last : LastSum) (over_it : IsWriteOver h i before) (is : IsSumOfRange h.journal last) where
  next : list_of (h.journal ++ Write i x ∷ []) ≡ slice_set (list_of h.journal) i x
  next = (list_of-snoc h.journal (Write i x) _ over_it.legal (applied_write (list_of h.journal) i x over_it.inside)).1

  long : length (list_of (h.journal ++ Write i x ∷ [])) ≡ length (list_of h.journal)
  long = ap length next ∙ length-set (list_of h.journal) i x

  -- a range that has the index takes the difference
  pub written_inside : (more : ℕ) (after : LastSum) → IsDifference before x more → last.lo ≤ i → i < last.hi → after ≡ record last { value = (last.value + more) % 2 ^ 64 } → IsSumOfRange (h.journal ++ Write i x ∷ []) after
  written_inside more after difference low high after_is =
      subst (IsSumOfRange (h.journal ++ Write i x ∷ [])) (sym after_is) record {
        order = is.order;
        inside = omega (arith, is.inside, long);
        value_is = ap (λ v. (v + more) % 2 ^ 64) is.value_is ∙ part_over h i before x more over_it difference last.lo (last.hi - last.lo) (i - last.lo) (omega (arith, low)) (omega (arith, low, high)) (omega (arith, is.order, is.inside));
      }

  -- another one keeps its elements
  pub written_outside : (i < last.lo) ⊎ (last.hi ≤ i) → IsSumOfRange (h.journal ++ Write i x ∷ []) last
  written_outside apart =
      let behind : (i < last.lo) ⊎ (last.lo + (last.hi - last.lo) ≤ i) = elim apart [ inl first ↦ inl first | inr past ↦ inr (omega (arith, past, is.order)) ] in
      stays h.journal (h.journal ++ Write i x ∷ []) last is (omega (arith, is.inside, long))
      (ap (λ l. slice_range l last.lo last.hi) next ∙ part_of_set (list_of h.journal) i x last.lo (last.hi - last.lo) behind)
