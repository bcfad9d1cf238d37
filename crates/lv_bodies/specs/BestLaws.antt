-- That the best total which the fold finds is the greatest of all runs.
use Rattle.std.specs.Prelude.{true, false, cond, int_lt, ◌≡◌, ◌⊎◌, ℕ, ℤ, pos, ◌-◌, ◌<◌, ◌≤◌, ◌+ℤ◌, ◌≤ℤ◌, Option, Some, None, option_map, List, [], ◌∷◌, ◌++◌, length, take, drop, fold, slice_range, refl}
use Rattle.std.specs.Int.{int_max}
use Rattle.std.proofs.Common.{arith, ap, sym, ◌∙◌, subst, inl, inr, append_assoc}
use Rattle.std.proofs.lemmas.Int.{ints, clamps}
use Rattle.std.proofs.lemmas.List.{append-nil, take-append-le, drop-append-le, drop_all, take_all, length-drop, length_push}
use Rattle.std.proofs.lemmas.Bool.{cases_lt}
use Rattle.std.proofs.lemmas.List.Sums.{fold_push}
use Rattle.lv_bodies.specs.Body.{fold_of}
use Rattle.lv_bodies.specs.Plain.{HasTotal, total, plain_best, IsPlainBest}
use Rattle.lv_bodies.specs.PlainLaws.{plain_best-is, same_best}
use Rattle.lv_bodies.specs.Optional.{join_of_both}
use Rattle.lv_bodies.specs.RunTotals.{totals_of, join_totals, best_operations}
use Rattle.lv_bodies.specs.declared.best.RunTotals.{RunTotals}

-- one more element adds to the total
total-push : (xs : List ℤ) (x : ℤ) → total (xs ++ x ∷ []) ≡ total xs +ℤ x
total-push xs x = fold_push ◌+ℤ◌ (pos 0) xs x

-- the total of one element is the element
total-single : (x : ℤ) → total (x ∷ []) ≡ x
total-single x = omega (arith, ints)

-- with one more element, what ended before its end stays
run_before : (xs : List ℤ) (x : ℤ) (i j : ℕ) → i < j → j ≤ length xs → slice_range (xs ++ x ∷ []) i j ≡ slice_range xs i j
run_before xs x i j p q =
    ap (take (j - i)) (drop-append-le i xs (x ∷ []) (omega arith))
    ∙ take-append-le (j - i) (drop i xs) (x ∷ []) (omega (arith, length-drop i xs))

-- what ends with one more element is what ended before it, and the element
end_of_push : (xs : List ℤ) (x : ℤ) (i : ℕ) → i ≤ length xs → total (drop i (xs ++ x ∷ [])) ≡ total (drop i xs) +ℤ x
end_of_push xs x i p = ap total (drop-append-le i xs (x ∷ []) p) ∙ total-push (drop i xs) x

-- a run up to the end is what is left from its start on
run_to_end : (xs : List ℤ) (i : ℕ) → slice_range xs i (length xs) ≡ drop i xs
run_to_end xs i = take_all (length xs - i) (drop i xs) (omega (arith, length-drop i xs))

-- what is kept of some neighbours is true of them: the greatest total that ends with the last, and of all runs
record IsKept (xs : List ℤ) (r : RunTotals) : Type 0 where
  suffix_reached : (i : ℕ) × (i < length xs) × (total (drop i xs) ≡ r.suffix)
  suffix_bound : (i : ℕ) → i < length xs → total (drop i xs) ≤ℤ r.suffix
  best_reached : HasTotal xs r.best
  best_bound : (i j : ℕ) → i < j → j ≤ length xs → total (slice_range xs i j) ≤ℤ r.best

-- what is kept of one element is true of it
kept_of_one : (x : ℤ) → IsKept (x ∷ []) (totals_of x)
kept_of_one x = record {
  suffix_reached = (0, omega arith, total-single x);
  suffix_bound = λ i p. let e : i ≡ 0 = omega arith in rw e (omega (arith, ints));
  best_reached = (0, 1, omega arith, omega arith, total-single x);
  best_bound = λ i j p q. let e : i ≡ 0 = omega arith in let f : j ≡ 1 = omega arith in rw (e, f) (omega (arith, ints));
}

-- the greater of two is one of them
max_cases : (x y : ℤ) → (int_max x y ≡ x) ⊎ (int_max x y ≡ y)
max_cases x y = elim (int_lt y x) as (λ b. (cond b x y ≡ x) ⊎ (cond b x y ≡ y)) [ true ↦ inl refl | false ↦ inr refl ]

module _ (xs : List ℤ) (x : ℤ) where
  -- what ends with the last element and begins with it is that element
  last_alone : total (drop (length xs) (xs ++ x ∷ [])) ≡ x
  last_alone = end_of_push xs x (length xs) (omega arith) ∙ ap (λ zs. total zs +ℤ x) (drop_all (length xs) xs (omega arith)) ∙ total-single x

-- with one more element, what is kept stays true
module _ (xs : List ℤ) (r : RunTotals) (x : ℤ) (h : IsKept xs r) where
  -- the greatest total that ends with it is that of some end
  next_suffix_reached : (i : ℕ) × (i < length (xs ++ x ∷ [])) × (total (drop i (xs ++ x ∷ [])) ≡ int_max x (x +ℤ r.suffix))
  next_suffix_reached =
      elim (max_cases x (x +ℤ r.suffix)) [
        | inl e ↦ (length xs, omega (arith, length_push xs x), last_alone xs x ∙ sym e)
        | inr e ↦
            let (i, within, is) = h.suffix_reached in
            (i, omega (arith, length_push xs x), omega (arith, ints, end_of_push xs x i (omega arith), is, e))
      ]

  -- no end has a greater total
  next_suffix_bound : (i : ℕ) → i < length (xs ++ x ∷ []) → total (drop i (xs ++ x ∷ [])) ≤ℤ int_max x (x +ℤ r.suffix)
  next_suffix_bound i p =
      elim (cases_lt i (length xs)) [
        | inl q ↦ omega (arith, ints, clamps, end_of_push xs x i (omega arith), h.suffix_bound i q)
        | inr q ↦ let e : i ≡ length xs = omega (arith, length_push xs x) in rw e (rw (last_alone xs x) (omega (arith, ints, clamps)))
      ]

  -- the best total is that of some run
  next_best_reached : HasTotal (xs ++ x ∷ []) (int_max (int_max r.best x) (r.suffix +ℤ x))
  next_best_reached =
      elim (max_cases (int_max r.best x) (r.suffix +ℤ x)) [
        | inl e ↦ elim (max_cases r.best x) [
          | inl f ↦
              let (i, j, before, within, is) = h.best_reached in
              (i, j, before, omega (arith, length_push xs x), ap total (run_before xs x i j before within) ∙ is ∙ sym (e ∙ f))
          | inr f ↦ (length xs, length (xs ++ x ∷ []), omega (arith, length_push xs x), omega arith, ap total (run_to_end (xs ++ x ∷ []) (length xs)) ∙ last_alone xs x ∙ sym (e ∙ f))
        ]
        | inr e ↦
            let (i, within, is) = h.suffix_reached in (
              i,
              length (xs ++ x ∷ []),
              omega (arith, length_push xs x),
              omega arith,
              ap total (run_to_end (xs ++ x ∷ []) i) ∙ end_of_push xs x i (omega arith) ∙ ap (λ t. t +ℤ x) is ∙ sym e,
            )
      ]

  -- no run has a greater total
  next_best_bound : (i j : ℕ) → i < j → j ≤ length (xs ++ x ∷ []) → total (slice_range (xs ++ x ∷ []) i j) ≤ℤ int_max (int_max r.best x) (r.suffix +ℤ x)
  next_best_bound i j p q =
      elim (cases_lt (length xs) j) [
        | inl s ↦
            let e : j ≡ length (xs ++ x ∷ []) = omega (arith, length_push xs x) in
            rw (e, run_to_end (xs ++ x ∷ []) i) (omega (arith, ints, clamps, next_suffix_bound i (omega arith)))
        | inr s ↦ rw (run_before xs x i j p s) (omega (arith, ints, clamps, h.best_bound i j p s))
      ]

  -- what is kept of the list and one more element is true of both
  kept_of_more : IsKept (xs ++ x ∷ []) (join_totals r (totals_of x))
  kept_of_more = record {
    suffix_reached = next_suffix_reached;
    suffix_bound = next_suffix_bound;
    best_reached = next_best_reached;
    best_bound = next_best_bound;
  }

-- what is kept of a list is true of it, and nothing is kept of no elements
KeepsBest : List ℤ → Option RunTotals → Type 0
KeepsBest xs None = xs ≡ []
KeepsBest xs (Some r) = IsKept xs r

-- one step of the fold keeps it so
keeps_more : (xs : List ℤ) (s : Option RunTotals) (x : ℤ) → KeepsBest xs s → KeepsBest (xs ++ x ∷ []) (join_of_both join_totals s (Some (totals_of x)))
unfolding KeepsBest
keeps_more xs None x e = subst (λ ys. IsKept (ys ++ x ∷ []) (totals_of x)) (sym e) (kept_of_one x)
keeps_more xs (Some r) x h = kept_of_more xs r x h

-- a fold that goes on keeps it so
keeps_all : (xs : List ℤ) (s : Option RunTotals) (ys : List ℤ) → KeepsBest xs s → KeepsBest (xs ++ ys) (fold (λ t x. join_of_both join_totals t (Some (totals_of x))) s ys)
keeps_all xs s [] h = subst (λ zs. KeepsBest zs s) (sym (append-nil xs)) h
keeps_all xs s (y ∷ ys) h =
    let t = join_of_both join_totals s (Some (totals_of y)) in
    subst (λ zs. KeepsBest zs (fold (λ u x. join_of_both join_totals u (Some (totals_of x))) t ys)) (append_assoc xs (y ∷ []) ys)
    (keeps_all (xs ++ y ∷ []) t ys (keeps_more xs s y h))

-- the best total that is kept is the plain one
best_of_kept : (xs : List ℤ) (s : Option RunTotals) → KeepsBest xs s → IsPlainBest xs (option_map (λ r. r.best) s)
unfolding KeepsBest
best_of_kept xs None e = record { none = (λ _. e, λ _. refl); reached = _; bound = _ }
best_of_kept [] (Some r) h = absurd (omega (arith, h.suffix_reached.1))
best_of_kept (x ∷ xs) (Some r) h = record {
  none = ((λ e. absurd (cc)), (λ e. absurd (cc)));
  reached = h.best_reached;
  bound = h.best_bound;
}

-- the best total that the fold finds is the greatest of all runs
pub fold_of-best : (xs : List ℤ) → option_map (λ r. r.best) (fold_of best_operations xs) ≡ plain_best xs
unfolding KeepsBest
fold_of-best xs = same_best xs _ _ (best_of_kept xs (fold_of best_operations xs) (keeps_all [] None xs refl)) (plain_best-is xs)
