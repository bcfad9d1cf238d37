-- The scans of a list with one element more.
use Rattle.std.proofs.Common.{◌≡◌, ℕ, ℤ, ◌+◌, ◌<◌, ◌≤◌, Bool, true, false, ◌⊎◌, List, [], ◌∷◌, ◌++◌, length, map, take, slice_index_or, slice_range, sym, ap, ◌∙◌, inl, inr, arith}
use Rattle.std.specs.List.{range_with_len}
use Rattle.std.proofs.lemmas.Bool.{false≢true, true≢false}
use Rattle.std.proofs.lemmas.List.{length_push, take-append-le, take_all}
use Rattle.std.proofs.lemmas.List.FromFn.{map-range_with_len_more}
use Rattle.std.proofs.lemmas.List.Sums.{fold_push}
use Rattle.lv_bodies.specs.Body.{Operations, fold_of}
use Rattle.lv_bodies.specs.ElementLaws.{All-range, map_alike}
use Rattle.lv_bodies.specs.Scan.{exclusive_scan, inclusive_scan}
use Rattle.lv_edits.proofs.Slices.{slice_range-more}
use Rattle.lv_reduce.specs.Answer.{scan_of}

module _ {S : Type 0} (o : Operations S) (xs : List ℤ) (x : ℤ) where
  -- one number more to map
  one_more : (f : ℕ → S) → map f (range_with_len 0 (length (xs ++ x ∷ []))) ≡ map f (range_with_len 0 (length xs)) ++ f (length xs) ∷ []
  one_more f = ap (λ n. map f (range_with_len 0 n)) (length_push xs x) ∙ map-range_with_len_more f 0 (length xs) (length xs) (omega arith)

  -- the beginnings that were there before stay
  earlier : (n : ℕ) → n ≤ length xs → fold_of o (take n (xs ++ x ∷ [])) ≡ fold_of o (take n xs)
  earlier n within = ap (fold_of o) (take-append-le n xs (x ∷ []) within)

  -- with one element more the inclusive scan has the fold of all at its end
  pub inclusive_scan-push : inclusive_scan o (xs ++ x ∷ []) ≡ inclusive_scan o xs ++ fold_of o (xs ++ x ∷ []) ∷ []
  inclusive_scan-push =
      one_more (λ i. fold_of o (take (i + 1) (xs ++ x ∷ [])))
      ∙ ap (λ ys. ys ++ fold_of o (take (length xs + 1) (xs ++ x ∷ [])) ∷ [])
      (map_alike (λ i. fold_of o (take (i + 1) (xs ++ x ∷ []))) (λ i. fold_of o (take (i + 1) xs)) (range_with_len 0 (length xs))
      (All-range _ (length xs) (λ i within. earlier (i + 1) (omega arith))))
      ∙ ap (λ ys. inclusive_scan o xs ++ fold_of o ys ∷ []) (take_all (length xs + 1) (xs ++ x ∷ []) (omega (arith, length_push xs x)))

  -- and the exclusive one the fold of all before it
  pub exclusive_scan-push : exclusive_scan o (xs ++ x ∷ []) ≡ exclusive_scan o xs ++ fold_of o xs ∷ []
  exclusive_scan-push =
      one_more (λ i. fold_of o (take i (xs ++ x ∷ [])))
      ∙ ap (λ ys. ys ++ fold_of o (take (length xs) (xs ++ x ∷ [])) ∷ [])
      (map_alike (λ i. fold_of o (take i (xs ++ x ∷ []))) (λ i. fold_of o (take i xs)) (range_with_len 0 (length xs))
      (All-range _ (length xs) (λ i within. earlier i (omega arith))))
      ∙ ap (λ ys. exclusive_scan o xs ++ ys ∷ []) (earlier (length xs) (omega arith) ∙ ap (fold_of o) (take_all (length xs) xs (omega arith)))

-- a range that ends one place later
module _ {S : Type 0} (o : Operations S) (xs : List ℤ) (lo i : ℕ) (x : ℤ) (low : lo ≤ i) (small : i < length xs) (at : x ≡ slice_index_or xs i x) where
  -- its fold joins one element more
  pub fold_of-slice-more : (s r : S) (y : ℤ) → y ≡ x → s ≡ fold_of o (slice_range xs lo i) → r ≡ o.join s (o.lift y) → r ≡ fold_of o (slice_range xs lo (i + 1))
  fold_of-slice-more s r y same before is =
      let joined = ap (fold_of o) (slice_range-more xs lo i x low small at) ∙ fold_push (λ s y. o.join s (o.lift y)) o.identity (slice_range xs lo i) x in
      is ∙ ap (λ z. o.join s (o.lift z)) same ∙ ap (λ t. o.join t (o.lift x)) before ∙ sym joined

  -- its inclusive scan has its fold at its end
  inclusive-slice-more : inclusive_scan o (slice_range xs lo (i + 1)) ≡ inclusive_scan o (slice_range xs lo i) ++ fold_of o (slice_range xs lo (i + 1)) ∷ []
  inclusive-slice-more =
      let next = slice_range-more xs lo i x low small at in
      ap (inclusive_scan o) next
      ∙ inclusive_scan-push o (slice_range xs lo i) x
      ∙ ap (λ ys. inclusive_scan o (slice_range xs lo i) ++ fold_of o ys ∷ []) (sym next)

  -- its exclusive scan has the fold of what stood there before at its end
  exclusive-slice-more : exclusive_scan o (slice_range xs lo (i + 1)) ≡ exclusive_scan o (slice_range xs lo i) ++ fold_of o (slice_range xs lo i) ∷ []
  exclusive-slice-more = ap (exclusive_scan o) (slice_range-more xs lo i x low small at) ∙ exclusive_scan-push o (slice_range xs lo i) x

  -- so either scan has at its end the fold with the element there, or without it
  pub scan_of-slice-more : (inclusive : Bool) (items longer : List S) (before after s : S) → before ≡ fold_of o (slice_range xs lo i) → after ≡ fold_of o (slice_range xs lo (i + 1)) → items ≡ scan_of inclusive o (slice_range xs lo i) → ((inclusive ≡ true) × (s ≡ after)) ⊎ ((inclusive ≡ false) × (s ≡ before)) → longer ≡ items ++ s ∷ [] → longer ≡ scan_of inclusive o (slice_range xs lo (i + 1))
  scan_of-slice-more true items longer before after s fold next scan (inl chosen) is = cc (next, scan, chosen.1, is, inclusive-slice-more)
  scan_of-slice-more true items longer before after s fold next scan (inr chosen) is = absurd (true≢false chosen.0)
  scan_of-slice-more false items longer before after s fold next scan (inl chosen) is = absurd (false≢true chosen.0)
  scan_of-slice-more false items longer before after s fold next scan (inr chosen) is = cc (fold, scan, chosen.1, is, exclusive-slice-more)
