-- What a write makes of the sum of a part of the list.
use Rattle.std.proofs.Common.{◌≡◌, ℕ, ℤ, pos, suc, zero, ◌+◌, ◌%◌, ◌^◌, ◌+ℤ◌, ◌<◌, ◌≤◌, List, [], ◌∷◌, ◌++◌, length, take, drop, fold, slice_set, refl, sym, ap, subst, ◌∙◌, arith}
use Rattle.std.specs.List.{slice_index_or}
use Rattle.std.proofs.Math.Seq.{take-set-lt}
use Rattle.std.proofs.lemmas.Int.{ints}
use Rattle.std.proofs.lemmas.List.{drop-set-add, get_or-drop, get_or-take, length-drop, length-take}
use Rattle.lv_bodies.specs.Body.{fold_of}
use Rattle.lv_bodies.specs.Plain.{remainder, total}
use Rattle.lv_bodies.specs.RemainderLaws.{remainder-add, remainder_below}
use Rattle.lv_bodies.specs.SumLaws.{fold_of-sum}
use Rattle.lv_bodies.specs.Sums.{sum_operations}
use Rattle.lv_edits.specs.declared.edit.Edit.TheVariants.{Write}
use Rattle.lv_edits.specs.History.{History, list_of}
use Rattle.lv_edits.proofs.HistoryLaws.{applied_write, list_of-snoc}
use Rattle.lv_tree.specs.LastSum.{IsDifference, IsWriteOver}

-- a sum that begins with more ends with more
begun_with : (xs : List ℤ) (a b d : ℤ) → a +ℤ d ≡ b → fold ◌+ℤ◌ a xs +ℤ d ≡ fold ◌+ℤ◌ b xs
begun_with [] a b d e = e
begun_with (x ∷ xs) a b d e = begun_with xs (a +ℤ x) (b +ℤ x) d (omega (arith, ints, e))

-- if an element is replaced, a sum takes the new one for the one before
total_set : (xs : List ℤ) (i : ℕ) (x a : ℤ) → i < length xs → fold ◌+ℤ◌ a (slice_set xs i x) +ℤ slice_index_or xs i (pos 0) ≡ fold ◌+ℤ◌ a xs +ℤ x
total_set [] i x a inside = absurd (omega (arith, inside))
total_set (y ∷ ys) zero x a inside = omega (arith, ints, begun_with ys a (a +ℤ x) x refl, begun_with ys a (a +ℤ y) y refl)
total_set (y ∷ ys) (suc i) x a inside = total_set ys i x (a +ℤ y) (omega (arith, inside))

-- a part of a list that has the place of an element which is replaced has the new one at that place
part_set : (xs : List ℤ) (from size j : ℕ) (x : ℤ) → j < size → take size (drop from (slice_set xs (from + j) x)) ≡ slice_set (take size (drop from xs)) j x
part_set xs from size j x small = ap (take size) (drop-set-add from xs j x) ∙ take-set-lt size (drop from xs) j x small

-- modulo 2 ^ 64
moved : (p q b v more : ℕ) → q < 2 ^ 64 → (q + b) % 2 ^ 64 ≡ (p + v) % 2 ^ 64 → (more + b) % 2 ^ 64 ≡ v → (p + more) % 2 ^ 64 ≡ q
moved p q b v more below same difference = omega (arith, below, same, difference)

-- the sum of the part takes the difference
sum_set : (part : List ℤ) (j : ℕ) (x : ℤ) (more : ℕ) → j < length part → IsDifference (slice_index_or part j (pos 0)) x more → (fold_of sum_operations part + more) % 2 ^ 64 ≡ fold_of sum_operations (slice_set part j x)
sum_set part j x more inside difference =
    let m = 2 ^ 64 in
    let before = slice_index_or part j (pos 0) in
    let next = slice_set part j x in
    let some : 0 < m = omega arith in
    let same : (remainder (total next) m + remainder before m) % m ≡ (remainder (total part) m + remainder x m) % m =
    sym (remainder-add (total next) before m some) ∙ ap (λ z. remainder z m) (total_set part j x (pos 0) inside) ∙ remainder-add (total part) x m some in
    ap (λ s. (s + more) % m) (fold_of-sum part)
    ∙ moved (remainder (total part) m) (remainder (total next) m) (remainder before m) (remainder x m) more (remainder_below (total next) m some) same difference
    ∙ sym (fold_of-sum next)

module _ (h : History) (i : ℕ) (before x : ℤ) (more : ℕ) (over : IsWriteOver h i before) (difference : IsDifference before x more) where
  -- the sum of a part of the list that has the index takes the difference
  pub part_over : (from size j : ℕ) → from + j ≡ i → j < size → from + size ≤ length (list_of h.journal)
      → (fold_of sum_operations (take size (drop from (list_of h.journal))) + more) % 2 ^ 64 ≡ fold_of sum_operations (take size (drop from (list_of (h.journal ++ Write i x ∷ []))))
  part_over from size j at small inside =
      let list = list_of h.journal in
      let part = take size (drop from list) in
      let long : j < length part = omega (arith, small, inside, length-take size (drop from list), length-drop from list) in
      let element : slice_index_or part j (pos 0) ≡ before =
      get_or-take size (drop from list) j (pos 0) small ∙ get_or-drop from list j (pos 0) ∙ ap (λ k. slice_index_or list k (pos 0)) at ∙ sym over.before_is in
      let next : list_of (h.journal ++ Write i x ∷ []) ≡ slice_set list i x = (list_of-snoc h.journal (Write i x) _ over.legal (applied_write list i x over.inside)).1 in
      sum_set part j x more long (subst (λ b. IsDifference b x more) (sym element) difference)
      ∙ ap (fold_of sum_operations) (sym (part_set list from size j x small) ∙ ap (λ k. take size (drop from (slice_set list k x))) at ∙ ap (λ xs. take size (drop from xs)) (sym next))
