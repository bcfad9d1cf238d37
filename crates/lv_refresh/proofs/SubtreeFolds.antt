-- The summaries of a subtree, level by level: folds of parts of its elements, and their joins.
use Rattle.std.proofs.Common.{◌≡◌, ℕ, ℤ, zero, suc, ◌+◌, ◌-◌, ◌*◌, ◌^◌, ◌<◌, ◌≤◌, Some, List, [], ◌∷◌, ◌++◌, length, take, drop, fold, All, get_or, subst, sym, ap, ◌∙◌, inl, inr, arith}
use Rattle.std.specs.Prelude.{slice_get, slice_range}
use Rattle.std.proofs.Math.Nat.{mul-le-mul_right}
use Rattle.std.proofs.Math.Seq.{take-add}
use Rattle.std.proofs.lemmas.Bool.{cases_eq}
use Rattle.std.proofs.lemmas.List.{drop-drop, get_or-drop, get_or-take, get_or_append_left, get_or_push, length_push, take_all}
use Rattle.std.proofs.lemmas.List.Elements.{All-append}
use Rattle.std.proofs.lemmas.List.Sums.{fold_more}
use Rattle.std.proofs.lemmas.Option.{get_or_from_slice_get, slice_get-get_or}
use Rattle.lv_geometry.specs.Elements.{IsElement}
use Rattle.lv_bodies.specs.Body.{BodyLaws, CanFold, Operations, fold_of}
use Rattle.lv_bodies.specs.FoldLaws.{fold_of-append, fold_of-within}
use Rattle.lv_edits.proofs.Slices.{length-slice_range, part_of_take}
use Rattle.lv_summary.proofs.FoldableLaws.{part_can_fold}
use Rattle.lv_refresh.specs.Subtrees.{AreFolds}

-- a slice of a slice is a slice of the whole
slice_of_slice : {A : Type 0} (xs : List A) (from size lo hi : ℕ) → lo ≤ hi → hi ≤ size → slice_range (slice_range xs from (from + size)) lo hi ≡ slice_range xs (from + lo) (from + hi)
slice_of_slice xs from size lo hi order inside =
    let whole : from + size - from ≡ size = omega arith in
    let apart : hi - lo ≡ from + hi - (from + lo) = omega arith in
    ap (λ k. take (hi - lo) (drop lo (take k (drop from xs)))) whole
    ∙ part_of_take (drop from xs) size lo (hi - lo) (omega arith)
    ∙ ap (take (hi - lo)) (drop-drop lo from xs)
    ∙ ap (λ k. take k (drop (from + lo) xs)) apart

-- an entry of a slice is an entry of the whole
get_of_slice : {A : Type 0} (xs : List A) (from size k : ℕ) (d : A) → k < size → from + size ≤ length xs → slice_get (slice_range xs from (from + size)) k ≡ slice_get xs (from + k)
get_of_slice xs from size k d small inside =
    let long : length (slice_range xs from (from + size)) ≡ from + size - from = length-slice_range xs from (from + size) (omega arith) inside in
    let whole : from + size - from ≡ size = omega arith in
    slice_get-get_or (slice_range xs from (from + size)) k d (omega arith)
    ∙ ap Some (get_or-take (from + size - from) (drop from xs) k d (omega arith) ∙ get_or-drop from xs k d)
    ∙ sym (slice_get-get_or xs (from + k) d (omega arith))

module _ {S : Type 0} (o : Operations S) (xs : List ℤ) where
  -- the first so many summaries
  pub record AreFirstFolds (each count : ℕ) (summaries : List S) : Type 0 where
    pub many : length summaries ≡ count
    pub folds : (k : ℕ) → k < count → slice_get summaries k ≡ Some (fold_of o (slice_range xs (each * k) (each * k + each)))

  -- none of them
  pub first_none : (each : ℕ) (summaries : List S) → summaries ≡ [] → AreFirstFolds each 0 summaries
  first_none each summaries empty = record { many = ap length empty; folds = λ k small. absurd (omega (arith, small)) }

  -- with one more they are one more
  pub first_more : (each count : ℕ) (summaries : List S) (s : S) → AreFirstFolds each count summaries → s ≡ fold_of o (slice_range xs (each * count) (each * count + each)) → AreFirstFolds each (count + 1) (summaries ++ s ∷ [])
  first_more each count summaries s first is =
      let long = length_push summaries s in
      record {
        many = omega (arith, long, first.many);
        folds = λ k small. elim (cases_eq k count) [
          | inl last ↦
              slice_get-get_or (summaries ++ s ∷ []) k s (omega (arith, long, first.many))
              ∙ ap Some (get_or_push summaries s s k (omega (arith, first.many)) ∙ is ∙ ap (λ k. fold_of o (slice_range xs (each * k) (each * k + each))) (sym last))
          | inr other ↦
              let before : k < count = omega arith in
              slice_get-get_or (summaries ++ s ∷ []) k s (omega (arith, long, first.many))
              ∙ ap Some (get_or_append_left summaries (s ∷ []) s k (omega (arith, first.many)))
              ∙ sym (slice_get-get_or summaries k s (omega (arith, first.many)))
              ∙ first.folds k before
        ];
      }

  -- those of all elements are all
  pub first_all : (each count : ℕ) (summaries : List S) → AreFirstFolds each count summaries → count * each ≡ length xs → AreFolds o xs each summaries
  first_all each count summaries first all =
      record { many = ap (λ n. n * each) first.many ∙ all; folds = λ k small. first.folds k (omega (arith, first.many)) }

  module _ (each : ℕ) (summaries : List S) (folds : AreFolds o xs each summaries) where
    -- eight of them side by side are the folds of a part of the elements
    pub eight_folds : (k : ℕ) → 8 * k + 8 ≤ length summaries → AreFolds o (slice_range xs (8 * each * k) (8 * each * k + 8 * each)) each (slice_range summaries (8 * k) (8 * k + 8))
    eight_folds k inside =
        let ends : (8 * k + 8) * each ≤ length summaries * each = mul-le-mul_right each inside in
        let fits : 8 * each * k + 8 * each ≤ length xs = omega (arith, folds.many) in
        let some : length (slice_range summaries (8 * k) (8 * k + 8)) ≡ 8 * k + 8 - 8 * k = length-slice_range summaries (8 * k) (8 * k + 8) (omega arith) inside in
        let eight : length (slice_range summaries (8 * k) (8 * k + 8)) ≡ 8 = omega arith in
        let long : length (slice_range xs (8 * each * k) (8 * each * k + 8 * each)) ≡ 8 * each * k + 8 * each - 8 * each * k = length-slice_range xs (8 * each * k) (8 * each * k + 8 * each) (omega arith) fits in
        record {
          many = ap (λ n. n * each) eight ∙ omega arith;
          folds = λ j small.
              let within : j < 8 = omega arith in
              let last : (j + 1) * each ≤ 8 * each = mul-le-mul_right each (omega arith) in
              let starts : each * (8 * k + j) ≡ 8 * each * k + each * j = omega arith in
              let stops : each * (8 * k + j) + each ≡ 8 * each * k + (each * j + each) = omega arith in
              get_of_slice summaries (8 * k) 8 j o.identity within inside
              ∙ folds.folds (8 * k + j) (omega arith)
              ∙ ap (λ from. Some (fold_of o (slice_range xs from (each * (8 * k + j) + each)))) starts
              ∙ ap (λ to. Some (fold_of o (slice_range xs (8 * each * k + each * j) to))) stops
              ∙ ap (λ part. Some (fold_of o part)) (sym (slice_of_slice xs (8 * each * k) (8 * each) (each * j) (each * j + each) (omega arith) (omega arith)));
        }

    module _ (within : S → ℕ → Type 0) (laws : BodyLaws o within) (can : CanFold xs) where
      -- each of the summaries can be that of so many elements
      pub folds_within : All (λ s. within s each) summaries
      folds_within k d inside =
          let part = slice_range xs (each * k) (each * k + each) in
          let ends : (k + 1) * each ≤ length summaries * each = mul-le-mul_right each (omega arith) in
          let long : length part ≡ each * k + each - each * k = length-slice_range xs (each * k) (each * k + each) (omega arith) (omega (arith, folds.many)) in
          let size : length part ≡ each = omega arith in
          let can_part : CanFold part = part_can_fold (each * k + each - each * k) (each * k) xs can in
          subst (λ s. within s each) (sym (get_or_from_slice_get summaries k (fold_of o part) d (folds.folds k inside))) (subst (within (fold_of o part)) size (fold_of-within o within laws part can_part))

      -- the first of them, joined from left to right, are the fold of the elements that they are of
      joined_first : (k : ℕ) → k ≤ length summaries → fold o.join o.identity (take k summaries) ≡ fold_of o (take (each * k) xs)
      joined_first zero few =
          let none : each * zero ≡ zero = omega arith in
          ap (λ n. fold_of o (take n xs)) (sym none)
      joined_first (suc k) few =
          let part = slice_range xs (each * k) (each * k + each) in
          let next : suc k ≡ k + 1 = omega arith in
          let size : each * k + each - each * k ≡ each = omega arith in
          let more : each * suc k ≡ each * k + each = omega arith in
          let longer : take (each * suc k) xs ≡ take (each * k) xs ++ part = ap (λ n. take n xs) more ∙ take-add (each * k) each xs ∙ ap (λ n. take (each * k) xs ++ take n (drop (each * k) xs)) (sym size) in
          let can_front : CanFold (take (each * suc k) xs) = part_can_fold (each * suc k) 0 xs can in
          let here : get_or summaries k o.identity ≡ fold_of o part = get_or_from_slice_get summaries k (fold_of o part) o.identity (folds.folds k (omega arith)) in
          ap (λ n. fold o.join o.identity (take n summaries)) next
          ∙ fold_more o.join o.identity summaries k o.identity (omega arith)
          ∙ ap (λ s. o.join s (get_or summaries k o.identity)) (joined_first k (omega arith))
          ∙ ap (o.join (fold_of o (take (each * k) xs))) here
          ∙ sym (fold_of-append o within laws (take (each * k) xs) part (subst CanFold longer can_front))
          ∙ ap (fold_of o) (sym longer)

      -- all of them are the fold of all elements
      pub joined_all : fold o.join o.identity summaries ≡ fold_of o xs
      joined_all =
          let long : each * length summaries ≡ length xs = omega (arith, folds.many) in
          ap (fold o.join o.identity) (sym (take_all (length summaries) summaries (omega arith)))
          ∙ joined_first (length summaries) (omega arith)
          ∙ ap (fold_of o) (ap (λ n. take n xs) long ∙ take_all (length xs) xs (omega arith))

module _ {S : Type 0} (o : Operations S) (within : S → ℕ → Type 0) (laws : BodyLaws o within) (xs : List ℤ) (can : CanFold xs) (each : ℕ) (summaries : List S) (folds : AreFolds o xs each summaries) (k : ℕ) (inside : 8 * k + 8 ≤ length summaries) where
  -- eight summaries side by side can be joined
  pub eight_can_join : (count : ℕ) × (length (slice_range summaries (8 * k) (8 * k + 8)) * count ≤ 2 ^ 20) × All (λ s. within s count) (slice_range summaries (8 * k) (8 * k + 8))
  eight_can_join =
      let part = slice_range xs (8 * each * k) (8 * each * k + 8 * each) in
      let of_part = eight_folds o xs each summaries folds k inside in
      let can_part : CanFold part = part_can_fold (8 * each * k + 8 * each - 8 * each * k) (8 * each * k) xs can in
      (each, omega (arith, of_part.many, can_part.few), folds_within o part each (slice_range summaries (8 * k) (8 * k + 8)) of_part within laws can_part)

  -- and are the fold of their elements then
  pub eight_joined : fold o.join o.identity (slice_range summaries (8 * k) (8 * k + 8)) ≡ fold_of o (slice_range xs (8 * each * k) (8 * each * k + 8 * each))
  eight_joined =
      let part = slice_range xs (8 * each * k) (8 * each * k + 8 * each) in
      let can_part : CanFold part = part_can_fold (8 * each * k + 8 * each - 8 * each * k) (8 * each * k) xs can in
      joined_all o part each (slice_range summaries (8 * k) (8 * k + 8)) (eight_folds o xs each summaries folds k inside) within laws can_part

-- no element is of more than 64 bits
pub elements_none : (xs : List ℤ) → All IsElement (take (8 * 0) xs)
elements_none xs k d inside = absurd (omega (arith, inside))

-- if the first blocks' elements are of 64 bits, and those of the next block are, all of them together are
pub elements_more : (xs : List ℤ) (k : ℕ) → All IsElement (take (8 * k) xs) → All IsElement (slice_range xs (8 * k) (8 * k + 8)) → All IsElement (take (8 * (k + 1)) xs)
elements_more xs k front part =
    let size : 8 * k + 8 - 8 * k ≡ 8 = omega arith in
    let more : 8 * (k + 1) ≡ 8 * k + 8 = omega arith in
    let longer : take (8 * (k + 1)) xs ≡ take (8 * k) xs ++ slice_range xs (8 * k) (8 * k + 8) = ap (λ n. take n xs) more ∙ take-add (8 * k) 8 xs ∙ ap (λ n. take (8 * k) xs ++ take n (drop (8 * k) xs)) (sym size) in
    subst (All IsElement) (sym longer) (All-append IsElement (take (8 * k) xs) (slice_range xs (8 * k) (8 * k + 8)) front part)
