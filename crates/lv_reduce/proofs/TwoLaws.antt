-- The scan of a list whose second part was scanned by itself.
use Rattle.std.proofs.Common.{◌≡◌, ℕ, zero, suc, ℤ, ◌+◌, ◌-◌, ◌≤◌, Bool, true, false, List, [], ◌∷◌, ◌++◌, length, map, take, slice_index_or, slice_range, All, pos, if◌then◌else◌, refl, sym, ap, subst, ◌∙◌, arith}
use Rattle.std.specs.List.{range_with_len}
use Rattle.std.proofs.Math.Seq.{drop-append_seam, take-append-add, take-append_seam}
use Rattle.std.proofs.lemmas.List.{length-append, length-take, map-append, take_all, take_more}
use Rattle.std.proofs.lemmas.List.Elements.{All-map, All-take}
use Rattle.std.proofs.lemmas.List.Sums.{fold_push}
use Rattle.lv_geometry.specs.Elements.{IsElement}
use Rattle.lv_bodies.specs.Body.{BodyLaws, CanFold, CanJoin, Operations, fold_of}
use Rattle.lv_bodies.specs.ElementLaws.{All-range}
use Rattle.lv_bodies.specs.FoldLaws.{fold_of-append, fold_of-within}
use Rattle.lv_summary.proofs.FoldableLaws.{part_can_fold}
use Rattle.lv_reduce.specs.Answer.{scan_of}
use Rattle.lv_reduce.specs.Running.{reached, scan_from}
use Rattle.lv_reduce.proofs.PieceLaws.{slice_range-append}
use Rattle.lv_reduce.proofs.RunLaws.{reached-append, scan_from-push, scan_of-append, scan_of-push}

-- a choice between two values of a function is its value of the choice
chosen : {S : Type 0} (f : S → S) (inclusive : Bool) (a b c d : S) → a ≡ f b → c ≡ f d → (if inclusive then a else c) ≡ f (if inclusive then b else d)
chosen f true a b c d first second = first
chosen f false a b c d first second = second

module _ {S : Type 0} (o : Operations S) (within : S → ℕ → Type 0) (laws : BodyLaws o within) (xs ys : List ℤ) (can : CanFold (xs ++ ys)) where
  long : length (xs ++ ys) ≡ length xs + length ys
  long = length-append xs ys

  -- the first part, and each front of the second, can be folded
  can_first : CanFold xs
  can_first = record {
    few = omega (arith, can.few, long);
    elements = subst (All IsElement) (take-append_seam xs ys) (All-take IsElement (length xs) (xs ++ ys) can.elements);
  }

  can_front : (k : ℕ) → k ≤ length ys → CanFold (take k ys)
  can_front k inside =
      subst (λ zs. CanFold (take k zs)) (drop-append_seam xs ys) (part_can_fold k (length xs) (xs ++ ys) can)

  -- the first part can be folded with a prefix of the second behind it
  can_both : (k : ℕ) → k ≤ length ys → CanFold (xs ++ take k ys)
  can_both k inside =
      subst CanFold (take-append-add xs ys k) (part_can_fold (length xs + k) 0 (xs ++ ys) can)

  -- whose fold is the join of the two folds
  front_joined : (k : ℕ) → k ≤ length ys → reached o (fold_of o xs) (take k ys) ≡ o.join (fold_of o xs) (fold_of o (take k ys))
  front_joined k inside =
      sym (reached-append o o.identity xs (take k ys)) ∙ fold_of-append o within laws xs (take k ys) (can_both k inside)

  -- a prefix of the second part, scanned from the first part's fold, is its own scan with that fold joined in front of each value
  front_scanned : (inclusive : Bool) (k : ℕ) → k ≤ length ys → scan_from inclusive o (fold_of o xs) (take k ys) ≡ map (o.join (fold_of o xs)) (scan_of inclusive o (take k ys))
  front_scanned true zero inside = refl
  front_scanned false zero inside = refl
  front_scanned inclusive (suc k) inside =
      let s = fold_of o xs in
      let front = take k ys in
      let y = slice_index_or ys k (pos 0) in
      let next : suc k ≡ k + 1 = omega arith in
      let more : take (suc k) ys ≡ front ++ y ∷ [] = ap (λ n. take n ys) next ∙ take_more ys k (pos 0) (omega arith) in
      let value = if inclusive then fold_of o (front ++ y ∷ []) else fold_of o front in
      let after : o.join (reached o s front) (o.lift y) ≡ o.join s (fold_of o (front ++ y ∷ [])) =
      sym (fold_push (λ t x. o.join t (o.lift x)) s front y) ∙ ap (reached o s) (sym more) ∙ front_joined (suc k) inside ∙ ap (λ zs. o.join s (fold_of o zs)) more in
      let before : reached o s front ≡ o.join s (fold_of o front) = front_joined k (omega arith) in
      let last : (if inclusive then o.join (reached o s front) (o.lift y) else reached o s front) ≡ o.join s value = chosen (o.join s) inclusive (o.join (reached o s front) (o.lift y)) (fold_of o (front ++ y ∷ [])) (reached o s front) (fold_of o front) after before in
      ap (scan_from inclusive o s) more
      ∙ scan_from-push o inclusive s front y
      ∙ ap (λ t. scan_from inclusive o s front ++ t ∷ []) last
      ∙ ap (λ ts. ts ++ o.join s value ∷ []) (front_scanned inclusive k (omega arith))
      ∙ sym (map-append (o.join s) (scan_of inclusive o front) (value ∷ []))
      ∙ ap (map (o.join s)) (sym (scan_of-push o inclusive front y) ∙ ap (scan_of inclusive o) (sym more))

  -- the scan of both parts
  both_scanned : (inclusive : Bool) → scan_of inclusive o (xs ++ ys) ≡ scan_of inclusive o xs ++ map (o.join (fold_of o xs)) (scan_of inclusive o ys)
  both_scanned inclusive =
      let all = take_all (length ys) ys (omega arith) in
      scan_of-append o inclusive xs ys
      ∙ ap (λ zs. scan_of inclusive o xs ++ scan_from inclusive o (fold_of o xs) zs) (sym all)
      ∙ ap (λ ts. scan_of inclusive o xs ++ ts) (front_scanned inclusive (length ys) (omega arith))
      ∙ ap (λ zs. scan_of inclusive o xs ++ map (o.join (fold_of o xs)) (scan_of inclusive o zs)) all

  -- the first part's fold may be joined with that of a prefix of the second
  can_join_front : (k : ℕ) → k ≤ length ys → CanJoin within (fold_of o xs) (fold_of o (take k ys))
  can_join_front k inside = record {
    left = length xs;
    right = length (take k ys);
    left_within = fold_of-within o within laws xs can_first;
    right_within = fold_of-within o within laws (take k ys) (can_front k inside);
    few = omega (arith, can.few, long, length-take k ys);
  }

  -- so with each value of its scan
  each_can_join : (inclusive : Bool) → All (CanJoin within (fold_of o xs)) (scan_of inclusive o ys)
  each_can_join true = All-map (CanJoin within (fold_of o xs)) (λ i. fold_of o (take (i + 1) ys)) (range_with_len 0 (length ys)) (All-range _ (length ys) (λ i inside. can_join_front (i + 1) (omega arith)))
  each_can_join false = All-map (CanJoin within (fold_of o xs)) (λ i. fold_of o (take i ys)) (range_with_len 0 (length ys)) (All-range _ (length ys) (λ i inside. can_join_front i (omega arith)))

module _ {S : Type 0} (o : Operations S) (within : S → ℕ → Type 0) (laws : BodyLaws o within) (xs : List ℤ) (can : CanFold xs) (lo mid hi : ℕ) (low : lo ≤ mid) (high : mid ≤ hi) (inclusive : Bool) where
  can_parts : CanFold (slice_range xs lo mid ++ slice_range xs mid hi)
  can_parts = subst CanFold (slice_range-append xs lo mid hi low high) (part_can_fold (hi - lo) lo xs can)

  -- the scan of a range whose second part was scanned by itself, and then joined with the fold of the first
  pub parts_scanned : (s : S) (first second longer : List S) → s ≡ fold_of o (slice_range xs lo mid) → first ≡ scan_of inclusive o (slice_range xs lo mid) → second ≡ scan_of inclusive o (slice_range xs mid hi) → longer ≡ first ++ map (o.join s) second → longer ≡ scan_of inclusive o (slice_range xs lo hi)
  parts_scanned s first second longer sum is_first is_second is =
      is
      ∙ ap (λ t. first ++ map (o.join t) second) sum
      ∙ ap (λ ts. ts ++ map (o.join (fold_of o (slice_range xs lo mid))) second) is_first
      ∙ ap (λ ts. scan_of inclusive o (slice_range xs lo mid) ++ map (o.join (fold_of o (slice_range xs lo mid))) ts) is_second
      ∙ sym (both_scanned o within laws (slice_range xs lo mid) (slice_range xs mid hi) can_parts inclusive)
      ∙ ap (scan_of inclusive o) (sym (slice_range-append xs lo mid hi low high))

  -- that fold may be joined with each value of the second scan
  pub parts_can_join : (s : S) (second : List S) → s ≡ fold_of o (slice_range xs lo mid) → second ≡ scan_of inclusive o (slice_range xs mid hi) → All (λ t. CanJoin within s t) second
  parts_can_join s second sum is_second =
      subst (λ t. All (λ u. CanJoin within t u) second) (sym sum)
      (subst (All (CanJoin within (fold_of o (slice_range xs lo mid)))) (sym is_second)
      (each_can_join o within laws (slice_range xs lo mid) (slice_range xs mid hi) can_parts inclusive))
