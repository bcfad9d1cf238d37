-- Folds that are kept of a list's blocks stay right if the list changes elsewhere, and folds of parts make that of a range.
use Rattle.std.proofs.Common.{◌≡◌, ◌≢◌, ◌⊎◌, ℕ, ℤ, ◌+◌, ◌*◌, ◌-◌, ◌/◌, ◌^◌, ◌<◌, ◌≤◌, Option, Some, None, List, [], ◌∷◌, ◌++◌, All, length, replicate, take, drop, slice_set, slice_range, slice_index_or, sym, ap, subst, ◌∙◌, refl, inl, inr, arith}
use Rattle.std.proofs.lemmas.Bool.{cases_eq, cases_lt}
use Rattle.std.proofs.lemmas.List.{drop-drop, get_or-append_right, get_or-replicate, get_or-set_other, get_or-set_same, get_or-take, get_or_append_left, get_or_past, length-append, length-replicate, length-set, length-take, length_push}
use Rattle.std.proofs.lemmas.List.Elements.{All-append}
use Rattle.std.proofs.lemmas.Option.{same_Some}
use Rattle.std.proofs.Math.Seq.{take-add}
use Rattle.lv_geometry.specs.Elements.{IsElement}
use Rattle.lv_bodies.specs.Body.{BodyLaws, CanFold, CanJoin, Operations, fold_of}
use Rattle.lv_bodies.specs.FoldLaws.{fold_of-append, fold_of-within}
use Rattle.lv_edits.proofs.Slices.{length-slice_range, part_of_push, part_of_set, part_of_take}
use Rattle.lv_transcript.specs.Blocks.{AreFolds, IsFold, block_elements, with_places}

-- what is known of a block is at a place of the list
known_below : {S : Type 0} (folds : List (Option S)) (k : ℕ) (s : S) → slice_index_or folds k None ≡ Some s → k < length folds
known_below folds k s known =
    elim (cases_lt k (length folds)) [
      | inl below ↦ below
      | inr past ↦ let none = get_or_past folds k None past in absurd (cc)
    ]

-- if a place is emptied, nothing is known of its block
known_elsewhere : {S : Type 0} (folds : List (Option S)) (j k : ℕ) (s : S) → slice_index_or (slice_set folds j None) k None ≡ Some s → k ≢ j
known_elsewhere folds j k s known = λ same.
    let here : slice_index_or (slice_set folds j None) j None ≡ Some s = subst (λ i. slice_index_or (slice_set folds j None) i None ≡ Some s) same known in
    let below : j < length folds = omega (arith, known_below (slice_set folds j None) j s here, length-set folds j None) in
    let none = get_or-set_same folds j None None below in
    absurd (cc)

-- an index that another block has is outside of a block
outside : (i k : ℕ) → k ≢ i / 1024 → (i < k * 1024) ⊎ (k * 1024 + ((k + 1) * 1024 - k * 1024) ≤ i)
outside i k other =
    elim (cases_lt i (k * 1024)) [
      | inl before ↦ inl before
      | inr from ↦ inr (omega arith)
    ]

-- in further places nothing is known
places_know_nothing : {S : Type 0} (folds : List (Option S)) (n k : ℕ) (s : S) → slice_index_or (folds ++ replicate n None) k None ≡ Some s → slice_index_or folds k None ≡ Some s
places_know_nothing {S} folds n k s known =
    elim (cases_lt k (length folds)) [
      | inl below ↦ sym (get_or_append_left folds (replicate n None) None k below) ∙ known
      | inr past ↦
          let longer : k < length folds + n = omega (arith, known_below (folds ++ replicate n None) k s known, length-append folds (replicate {A = Option S} n None), length-replicate {A = Option S} n None) in
          let here = get_or-append_right folds (replicate n None) (length folds) k None refl past in
          let none = get_or-replicate {A = Option S} n (k - length folds) None None (omega arith) in
          absurd (cc)
    ]

-- what is known once a block's fold is kept is that fold, or was known before
learnt : {S : Type 0} {P : Type 0} (folds : List (Option S)) (k : ℕ) (s : S) (j : ℕ) (t : S) → slice_index_or (slice_set folds k (Some s)) j None ≡ Some t → (slice_index_or folds j None ≡ Some t → P) → (j ≡ k → s ≡ t → P) → P
learnt folds k s j t known before here =
    elim (cases_eq j k) [
      | inl same ↦
          let at : slice_index_or (slice_set folds k (Some s)) k None ≡ Some t = subst (λ i. slice_index_or (slice_set folds k (Some s)) i None ≡ Some t) same known in
          let below : k < length folds = omega (arith, known_below (slice_set folds k (Some s)) k t at, length-set folds k (Some s)) in
          here same (same_Some s t (sym (get_or-set_same folds k (Some s) None below) ∙ at))
      | inr other ↦ before (sym (get_or-set_other folds k j (Some s) None other) ∙ known)
    ]

module _ {S : Type 0} (o : Operations S) (xs : List ℤ) where
  -- nothing is known
  pub folds-none : AreFolds o xs []
  folds-none = record { whole = omega arith; right = λ k s known. absurd (omega (arith, known_below [] k s known)) }

  module _ (folds : List (Option S)) (kept : AreFolds o xs folds) where
    -- a block that is known is whole
    block_inside : (k : ℕ) (s : S) → slice_index_or folds k None ≡ Some s → (k + 1) * 1024 ≤ length xs
    block_inside k s known = omega (arith, kept.whole, known_below folds k s known)

    -- one more element at the end changes no whole block
    pub folds-push : (x : ℤ) → AreFolds o (xs ++ x ∷ []) folds
    folds-push x = record {
      whole = omega (arith, kept.whole, length_push xs x);
      right = λ k s known.
          let inside = block_inside k s known in
          subst (λ ys. IsFold o ys s) (sym (part_of_push xs x (k * 1024) ((k + 1) * 1024 - k * 1024) (omega arith))) (kept.right k s known);
    }

    -- an element that is overwritten changes the block that has it, and no other
    pub folds-set : (i : ℕ) (x : ℤ) → AreFolds o (slice_set xs i x) (slice_set folds (i / 1024) None)
    folds-set i x = record {
      whole = omega (arith, kept.whole, length-set xs i x, length-set folds (i / 1024) None);
      right = λ k s known.
          let other = known_elsewhere folds (i / 1024) k s known in
          let before : slice_index_or folds k None ≡ Some s = sym (get_or-set_other folds (i / 1024) k None None other) ∙ known in
          subst (λ ys. IsFold o ys s) (sym (part_of_set xs i x (k * 1024) ((k + 1) * 1024 - k * 1024) (outside i k other))) (kept.right k s before);
    }

    -- a list that is cut keeps the blocks before the cut
    pub folds-cut : (count : ℕ) → AreFolds o (take count xs) (take (count / 1024) folds)
    folds-cut count = record {
      whole = omega (arith, kept.whole, length-take count xs, length-take (count / 1024) folds);
      right = λ k s known.
          let below : k < count / 1024 = omega (arith, known_below (take (count / 1024) folds) k s known, length-take (count / 1024) folds) in
          let before : slice_index_or folds k None ≡ Some s = sym (get_or-take (count / 1024) folds k None below) ∙ known in
          subst (λ ys. IsFold o ys s) (sym (part_of_take xs count (k * 1024) ((k + 1) * 1024 - k * 1024) (omega arith))) (kept.right k s before);
    }

    -- further places know nothing
    pub folds-places : (blocks : ℕ) → blocks * 1024 ≤ length xs → AreFolds o xs (with_places folds blocks)
    folds-places blocks inside = record {
      whole = omega (arith, kept.whole, length-append folds (replicate (blocks - length folds) None), length-replicate {A = Option S} (blocks - length folds) None);
      right = λ k s known. kept.right k s (places_know_nothing folds (blocks - length folds) k s known);
    }

    -- the fold of a block is kept in its place
    pub folds-learn : (k : ℕ) (s : S) → IsFold o (block_elements xs k) s → AreFolds o xs (slice_set folds k (Some s))
    folds-learn k s is = record {
      whole = omega (arith, kept.whole, length-set folds k (Some s));
      right = λ j t known. learnt folds k s j t known (kept.right j t) (λ same told. subst (λ n. IsFold o (block_elements xs n) t) (sym same) (subst (IsFold o (block_elements xs k)) told is));
    }

-- a slice that ends later has a further slice at its end
slice_range-append : {A : Type 0} (xs : List A) (lo at end : ℕ) → lo ≤ at → at ≤ end → slice_range xs lo end ≡ slice_range xs lo at ++ slice_range xs at end
slice_range-append xs lo at end low high =
    let long : end - lo ≡ at - lo + (end - at) = omega arith in
    let place : lo + (at - lo) ≡ at = omega arith in
    ap (λ n. take n (drop lo xs)) long
    ∙ take-add (at - lo) (end - at) (drop lo xs)
    ∙ ap (λ ys. take (at - lo) (drop lo xs) ++ take (end - at) ys) (drop-drop (at - lo) lo xs ∙ ap (λ n. drop n xs) place)

module _ {S : Type 0} (o : Operations S) (within : S → ℕ → Type 0) (laws : BodyLaws o within) (xs : List ℤ) (few : length xs ≤ 2 ^ 20) where
  -- a slice of elements of 64 bits can be folded
  pub slice_can_fold : (lo hi : ℕ) → lo ≤ hi → hi ≤ length xs → All IsElement (slice_range xs lo hi) → CanFold (slice_range xs lo hi)
  slice_can_fold lo hi order inside elements = record { few = omega (arith, few, length-slice_range xs lo hi order inside); elements = elements }

  -- and its fold is within its width
  slice-within : (lo hi : ℕ) → lo ≤ hi → hi ≤ length xs → (s : S) → IsFold o (slice_range xs lo hi) s → within s (hi - lo)
  slice-within lo hi order inside s is =
      subst (λ t. within t (hi - lo)) (sym is.fold)
      (subst (λ n. within (fold_of o (slice_range xs lo hi)) n) (length-slice_range xs lo hi order inside)
      (fold_of-within o within laws (slice_range xs lo hi) (slice_can_fold lo hi order inside is.elements)))

  module _ (lo at hi : ℕ) (low : lo ≤ at) (high : at ≤ hi) (inside : hi ≤ length xs) (s t : S) (left : IsFold o (slice_range xs lo at) s) (right : IsFold o (slice_range xs at hi) t) where
    -- the folds of two parts of a range may be joined
    pub slices_can_join : CanJoin within s t
    slices_can_join = record {
      left = at - lo;
      right = hi - at;
      left_within = slice-within lo at low (omega arith) s left;
      right_within = slice-within at hi high inside t right;
      few = omega (arith, few);
    }

    -- and their join is the fold of the range
    pub slice-joined : (r : S) → r ≡ o.join s t → IsFold o (slice_range xs lo hi) r
    slice-joined r is =
        let parts = slice_range-append xs lo at hi low high in
        let both : All IsElement (slice_range xs lo at ++ slice_range xs at hi) = All-append IsElement (slice_range xs lo at) (slice_range xs at hi) left.elements right.elements in
        let elements : All IsElement (slice_range xs lo hi) = subst (All IsElement) (sym parts) both in
        let can : CanFold (slice_range xs lo at ++ slice_range xs at hi) = subst CanFold parts (slice_can_fold lo hi (omega arith) inside elements) in
        let joined = ap (fold_of o) parts ∙ fold_of-append o within laws (slice_range xs lo at) (slice_range xs at hi) can in
        record { fold = is ∙ ap (λ u. o.join u t) left.fold ∙ ap (o.join (fold_of o (slice_range xs lo at))) right.fold ∙ sym joined; elements = elements }
