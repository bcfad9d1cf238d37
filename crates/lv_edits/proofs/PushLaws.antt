-- Many pushes, one after another: which error comes first, and the history after them.
use Rattle.std.proofs.Common.{◌≡◌, ◌≢◌, ℕ, ℤ, ◌+◌, ◌-◌, ◌<◌, ◌≤◌, max, All, Some, None, Option, List, [], ◌∷◌, ◌++◌, length, map, refl, sym, ap, subst, ◌∙◌, inl, inr, arith}
use Rattle.std.proofs.lemmas.Bool.{cases_eq, cond-false, cond-true, eq-eqb, ne_eqb}
use Rattle.std.proofs.lemmas.List.{append-nil, append_assoc, length_push, take_all}
use Rattle.std.proofs.lemmas.List.Elements.{All-head, All-tail}
use Rattle.std.proofs.lemmas.Option.{none-some}
use Rattle.lv_geometry.specs.Cells.{AreFewest, capacity_of}
use Rattle.lv_geometry.specs.Elements.{IsElement}
use Rattle.lv_geometry.specs.declared.refusals.Refusal.{Refusal}
use Rattle.lv_geometry.specs.declared.refusals.Refusal.TheVariants.{Full, Worn}
use Rattle.lv_edits.specs.declared.edit.Edit.{Edit}
use Rattle.lv_edits.specs.declared.edit.Edit.TheVariants.{Push}
use Rattle.lv_edits.specs.History.{History, list_of, replayed, with_edit}
use Rattle.lv_edits.specs.Inner.{AreNeeded}
use Rattle.lv_edits.specs.Kept.{IsLegalInLimits}
use Rattle.lv_edits.specs.Pushes.{first_refusal, verdict_of_pushes, with_pushes}
use Rattle.lv_edits.specs.Verdict.{verdict_of}
use Rattle.lv_edits.proofs.CapacityLaws.{AreNeeded-snoc, fewest_within, suffices_above}
use Rattle.lv_edits.proofs.HistoryLaws.{IsLegalInLimits-snoc, legal-snoc, list_of-snoc, not_refused, unrefused_push}

-- a journal is legal, and it and its list keep the limits
pub record KeepsLimits (h : History) : Type 0 where
  pub legal : replayed h.journal ≡ Some (list_of h.journal)
  pub edits : length h.journal ≤ h.limits.edits
  pub size : length (list_of h.journal) ≤ capacity_of h.limits.buckets

-- a legal history within its limits satisfies `KeepsLimits`
pub keeps_limits : (h : History) → IsLegalInLimits h → KeepsLimits h
keeps_limits h kept = record { legal = kept.legal; edits = kept.edits; size = kept.size }

-- the list after one more push
pub list_pushed : (h : History) (x : ℤ) → replayed h.journal ≡ Some (list_of h.journal) → list_of (h.journal ++ Push x ∷ []) ≡ list_of h.journal ++ x ∷ []
list_pushed h x legal = (list_of-snoc h.journal (Push x) _ legal refl).1

-- it is one longer
pub size_pushed : (h : History) (x : ℤ) → replayed h.journal ≡ Some (list_of h.journal) → length (list_of (h.journal ++ Push x ∷ [])) ≡ length (list_of h.journal) + 1
size_pushed h x legal = ap length (list_pushed h x legal) ∙ length_push (list_of h.journal) x

-- a push is accepted if no limit is reached
accepted_push : (h : History) (x : ℤ) → length h.journal ≢ h.limits.edits → length (list_of h.journal) ≢ capacity_of h.limits.buckets → verdict_of h.limits h.journal (Push x) ≡ None
accepted_push h x edits cells = cond-false _ _ _ (ne_eqb _ _ edits) ∙ cond-false _ _ _ (ne_eqb _ _ cells)

-- and after it the limits are kept
keeps_limits-push : (h : History) (x : ℤ) → KeepsLimits h → length h.journal ≢ h.limits.edits → length (list_of h.journal) ≢ capacity_of h.limits.buckets → KeepsLimits (with_edit h (Push x))
keeps_limits-push h x kept edits cells = record {
  legal = legal-snoc h.journal (Push x) _ kept.legal refl;
  edits = omega (arith, kept.edits, edits, length_push h.journal (Push x));
  size = omega (arith, kept.size, cells, size_pushed h x kept.legal);
}

-- no push is rejected if the limits allow so many
pub none_refused : (h : History) (xs : List ℤ) → KeepsLimits h → length h.journal + length xs ≤ h.limits.edits → length (list_of h.journal) + length xs ≤ capacity_of h.limits.buckets → verdict_of_pushes h xs ≡ None
none_refused h [] kept edits cells = refl
none_refused h (x ∷ xs) kept edits cells =
    let some_edits : length h.journal ≢ h.limits.edits = λ full. omega (arith, full, edits) in
    let some_cells : length (list_of h.journal) ≢ capacity_of h.limits.buckets = λ full. omega (arith, full, cells) in
    ap (λ first. first_refusal first (verdict_of_pushes (with_edit h (Push x)) xs)) (accepted_push h x some_edits some_cells)
    ∙ none_refused (with_edit h (Push x)) xs (keeps_limits-push h x kept some_edits some_cells) (omega (arith, edits, length_push h.journal (Push x))) (omega (arith, cells, size_pushed h x kept.legal))

-- if the limit of edits is reached first, or together with the limit of cells, the first rejected push fails with `Worn`
pub worn_first : (h : History) (xs : List ℤ) → KeepsLimits h → h.limits.edits < length h.journal + length xs → h.limits.edits - length h.journal ≤ capacity_of h.limits.buckets - length (list_of h.journal) → verdict_of_pushes h xs ≡ Some Worn
worn_first h [] kept more first = absurd (omega (arith, kept.edits, more))
worn_first h (x ∷ xs) kept more first =
    let after = verdict_of_pushes (with_edit h (Push x)) xs in
    elim (cases_eq (length h.journal) h.limits.edits) [
      | inl worn ↦ ap (λ v. first_refusal v after) (cond-true _ _ _ (eq-eqb _ _ worn))
      | inr left ↦
          let some_cells : length (list_of h.journal) ≢ capacity_of h.limits.buckets = λ full. left (omega (arith, full, first, kept.edits)) in
          ap (λ v. first_refusal v after) (accepted_push h x left some_cells)
          ∙ worn_first (with_edit h (Push x)) xs (keeps_limits-push h x kept left some_cells) (omega (arith, more, length_push h.journal (Push x))) (omega (arith, first, left, kept.edits, length_push h.journal (Push x), size_pushed h x kept.legal))
    ]

-- if the limit of cells is reached first, the first rejected push fails with `Full`
pub full_first : (h : History) (xs : List ℤ) → KeepsLimits h → capacity_of h.limits.buckets < length (list_of h.journal) + length xs → capacity_of h.limits.buckets - length (list_of h.journal) < h.limits.edits - length h.journal → verdict_of_pushes h xs ≡ Some Full
full_first h [] kept more first = absurd (omega (arith, kept.size, more))
full_first h (x ∷ xs) kept more first =
    let after = verdict_of_pushes (with_edit h (Push x)) xs in
    let left : length h.journal ≢ h.limits.edits = λ worn. omega (arith, worn, first) in
    elim (cases_eq (length (list_of h.journal)) (capacity_of h.limits.buckets)) [
      | inl full ↦
          let refused : verdict_of h.limits h.journal (Push x) ≡ Some Full = cond-false _ _ _ (ne_eqb _ _ left) ∙ cond-true _ _ _ (eq-eqb _ _ full) in
          ap (λ v. first_refusal v after) refused
      | inr some_cells ↦
          ap (λ v. first_refusal v after) (accepted_push h x left some_cells)
          ∙ full_first (with_edit h (Push x)) xs (keeps_limits-push h x kept left some_cells) (omega (arith, more, size_pushed h x kept.legal)) (omega (arith, first, some_cells, kept.size, length_push h.journal (Push x), size_pushed h x kept.legal))
    ]

-- if there is no first error of two, there is neither of them
pub neither : (first later : Option Refusal) → first_refusal first later ≡ None → (first ≡ None) × (later ≡ None)
neither None later none = (refl, none)
neither (Some refusal) later none = absurd (none-some refusal (sym none))

-- the history after pushes that are all accepted
pub record MadeByPushes (h new : History) (xs : List ℤ) : Type 0 where
  pub limits : new.limits ≡ h.limits
  pub journal : new.journal ≡ h.journal ++ map Push xs
  pub kept : KeepsLimits new
  pub list : list_of new.journal ≡ list_of h.journal ++ xs
  pub edits : length new.journal ≡ length h.journal + length xs
  pub size : length (list_of new.journal) ≡ length (list_of h.journal) + length xs

pub made_by_pushes : (h : History) (xs : List ℤ) → KeepsLimits h → verdict_of_pushes h xs ≡ None → MadeByPushes h (with_pushes h xs) xs
made_by_pushes h [] kept free =
    record { limits = refl; journal = sym (append-nil h.journal); kept = kept; list = sym (append-nil (list_of h.journal)); edits = omega arith; size = omega arith }
made_by_pushes h (x ∷ xs) kept free =
    let parts = neither (verdict_of h.limits h.journal (Push x)) (verdict_of_pushes (with_edit h (Push x)) xs) free in
    let left = not_refused h.limits h.journal (Push x) parts.0 in
    let cells = unrefused_push h.limits (list_of h.journal) x left.1 in
    let rest = made_by_pushes (with_edit h (Push x)) xs (keeps_limits-push h x kept left.0 cells) parts.1 in
    record {
      limits = rest.limits;
      journal = rest.journal ∙ append_assoc h.journal (Push x ∷ []) (map Push xs);
      kept = rest.kept;
      list = rest.list ∙ ap (λ ys. ys ++ xs) (list_pushed h x kept.legal) ∙ append_assoc (list_of h.journal) (x ∷ []) xs;
      edits = omega (arith, rest.edits, length_push h.journal (Push x));
      size = omega (arith, rest.size, size_pushed h x kept.legal);
    }

-- a history within its limits stays so
pub IsLegalInLimits-pushes : (h : History) (xs : List ℤ) → IsLegalInLimits h → verdict_of_pushes h xs ≡ None → All IsElement xs → IsLegalInLimits (with_pushes h xs)
IsLegalInLimits-pushes h [] kept free fits = kept
IsLegalInLimits-pushes h (x ∷ xs) kept free fits =
    let parts = neither (verdict_of h.limits h.journal (Push x)) (verdict_of_pushes (with_edit h (Push x)) xs) free in
    IsLegalInLimits-pushes (with_edit h (Push x)) xs (IsLegalInLimits-snoc h (Push x) kept parts.0 (All-head IsElement x xs fits)) parts.1 (All-tail IsElement x xs fits)

-- the list is no longer than the cells that are needed
list_within : (es : List Edit) (k : ℕ) → AreNeeded es k → length (list_of es) ≤ capacity_of k
list_within es k needed =
    let enough = (suffices_above es (capacity_of k) needed.enough).lists (length es) (omega arith) in
    rw (take_all (length es) es (omega arith)) at enough

-- the buckets that are needed then
pub AreNeeded-pushes : (h : History) (xs : List ℤ) (before k : ℕ) → KeepsLimits h → verdict_of_pushes h xs ≡ None → AreNeeded h.journal before → AreFewest (length (list_of h.journal) + length xs) k → AreNeeded (with_pushes h xs).journal (max before k)
AreNeeded-pushes h [] before k kept free needed fewest =
    let no_more : k ≤ before = fewest.fewest before (omega (arith, list_within h.journal before needed)) in
    let same : before ≡ max before k = omega (arith, no_more) in
    subst (AreNeeded h.journal) same needed
AreNeeded-pushes h (x ∷ xs) before k kept free needed fewest =
    let parts = neither (verdict_of h.limits h.journal (Push x)) (verdict_of_pushes (with_edit h (Push x)) xs) free in
    let left = not_refused h.limits h.journal (Push x) parts.0 in
    let cells = unrefused_push h.limits (list_of h.journal) x left.1 in
    let long = size_pushed h x kept.legal in
    let size = length (list_of h.journal) in
    let one = fewest_within (size + 1) k (omega (arith, fewest.enough)) in
    let next = AreNeeded-snoc h.journal (Push x) before one.0 (size + 1) needed one.2 (omega (arith, long)) (omega (arith, long)) in
    let count : size + length (x ∷ xs) ≡ length (list_of (h.journal ++ Push x ∷ [])) + length xs = omega (arith, long) in
    let rest = AreNeeded-pushes (with_edit h (Push x)) xs (max before one.0) k (keeps_limits-push h x kept left.0 cells) parts.1 next (subst (λ n. AreFewest n k) count fewest) in
    let same : max (max before one.0) k ≡ max before k = omega (arith, one.1) in
    subst (AreNeeded (with_pushes (with_edit h (Push x)) xs).journal) same rest
