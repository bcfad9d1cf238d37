-- That the fold of the best run keeps the total of all, the greatest total of a beginning and that of an ending.
use Rattle.std.specs.Prelude.{◌≡◌, ◌⊎◌, ℕ, ℤ, pos, ◌<◌, ◌≤◌, ◌+ℤ◌, ◌≤ℤ◌, Option, Some, None, List, [], ◌∷◌, ◌++◌, length, take, drop, fold, true, false, cond, int_lt, refl}
use Rattle.std.proofs.Common.{ap, sym, subst, ◌∙◌, inl, inr, arith, append_assoc}
use Rattle.std.specs.Int.{int_max}
use Rattle.std.proofs.lemmas.Bool.{cases_lt}
use Rattle.std.proofs.lemmas.Int.{ints, clamps}
use Rattle.std.proofs.lemmas.List.{append-nil, drop-append-le, drop_all, length_push, take-append-le, take_all}
use Rattle.std.proofs.lemmas.List.Sums.{fold_push}
use Rattle.lv_bodies.specs.Body.{fold_of}
use Rattle.lv_bodies.specs.Optional.{join_of_both}
use Rattle.lv_bodies.specs.Plain.{total}
use Rattle.lv_bodies.specs.RunTotals.{best_operations, join_totals, totals_of}
use Rattle.lv_bodies.specs.declared.best.RunTotals.{RunTotals}

-- what is kept of some neighbours is true of their beginnings and of their endings
pub record KeepsEnds (xs : List ℤ) (r : RunTotals) : Type 0 where
  pub all : r.total ≡ total xs
  pub begins : (j : ℕ) × (1 ≤ j) × (j ≤ length xs) × (total (take j xs) ≡ r.prefix)
  pub begins_most : (j : ℕ) → 1 ≤ j → j ≤ length xs → total (take j xs) ≤ℤ r.prefix
  pub ends : (j : ℕ) × (j < length xs) × (total (drop j xs) ≡ r.suffix)
  pub ends_most : (j : ℕ) → j < length xs → total (drop j xs) ≤ℤ r.suffix

-- and nothing is kept of no elements
abbrev pub AreEnds : List ℤ → Option RunTotals → Type 0
AreEnds xs None = xs ≡ []
AreEnds xs (Some r) = KeepsEnds xs r

-- one more element adds to the total
total-push : (xs : List ℤ) (x : ℤ) → total (xs ++ x ∷ []) ≡ total xs +ℤ x
total-push xs x = fold_push ◌+ℤ◌ (pos 0) xs x

-- the total of one element is the element
total-single : (x : ℤ) → total (x ∷ []) ≡ x
total-single x = omega (arith, ints)

-- the greater of two is one of them
max_cases : (x y : ℤ) → (int_max x y ≡ x) ⊎ (int_max x y ≡ y)
max_cases x y = elim (int_lt y x) as (λ b. (cond b x y ≡ x) ⊎ (cond b x y ≡ y)) [ true ↦ inl refl | false ↦ inr refl ]

-- of one element it is
of_one : (x : ℤ) → KeepsEnds (x ∷ []) (totals_of x)
of_one x = record {
  all = sym (total-single x);
  begins = (1, omega arith, omega arith, total-single x);
  begins_most = λ j some few. let e : j ≡ 1 = omega arith in rw e (omega (arith, ints));
  ends = (0, omega arith, total-single x);
  ends_most = λ j few. let e : j ≡ 0 = omega arith in rw e (omega (arith, ints));
}

-- an ending with one more element is the one before it, and the element
end_of_push : (xs : List ℤ) (x : ℤ) (j : ℕ) → j ≤ length xs → total (drop j (xs ++ x ∷ [])) ≡ total (drop j xs) +ℤ x
end_of_push xs x j few = ap total (drop-append-le j xs (x ∷ []) few) ∙ total-push (drop j xs) x

-- an ending of only the last element adds up to that element
last_alone : (xs : List ℤ) (x : ℤ) → total (drop (length xs) (xs ++ x ∷ [])) ≡ x
last_alone xs x = end_of_push xs x (length xs) (omega arith) ∙ ap (λ zs. total zs +ℤ x) (drop_all (length xs) xs (omega arith)) ∙ total-single x

module _ (xs : List ℤ) (r : RunTotals) (x : ℤ) (h : KeepsEnds xs r) where
  -- a beginning that ends before one more element stays
  before_more : (j : ℕ) → j ≤ length xs → total (take j (xs ++ x ∷ [])) ≡ total (take j xs)
  before_more j few = ap total (take-append-le j xs (x ∷ []) few)

  -- all with one more element
  with_more : total (take (length (xs ++ x ∷ [])) (xs ++ x ∷ [])) ≡ total xs +ℤ x
  with_more = ap total (take_all (length (xs ++ x ∷ [])) (xs ++ x ∷ []) (omega arith)) ∙ total-push xs x

  -- with one more element the greatest beginning is some beginning
  begins_more : (j : ℕ) × (1 ≤ j) × (j ≤ length (xs ++ x ∷ [])) × (total (take j (xs ++ x ∷ [])) ≡ int_max r.prefix (r.total +ℤ x))
  begins_more =
      elim (max_cases r.prefix (r.total +ℤ x)) [
        | inl e ↦
            let (j, some, few, is) = h.begins in
            (j, some, omega (arith, length_push xs x), before_more j few ∙ is ∙ sym e)
        | inr e ↦ (length (xs ++ x ∷ []), omega (arith, length_push xs x), omega arith, with_more ∙ ap (λ t. t +ℤ x) (sym h.all) ∙ sym e)
      ]

  -- and no beginning has a greater total
  begins_most_more : (j : ℕ) → 1 ≤ j → j ≤ length (xs ++ x ∷ []) → total (take j (xs ++ x ∷ [])) ≤ℤ int_max r.prefix (r.total +ℤ x)
  begins_most_more j some few =
      elim (cases_lt (length xs) j) [
        | inl whole ↦
            let e : j ≡ length (xs ++ x ∷ []) = omega (arith, length_push xs x) in
            rw (e, with_more) (omega (arith, ints, clamps, h.all))
        | inr inside ↦ rw (before_more j inside) (omega (arith, ints, clamps, h.begins_most j some inside))
      ]

  -- with one element more, some ending has the greatest total
  ends_more : (j : ℕ) × (j < length (xs ++ x ∷ [])) × (total (drop j (xs ++ x ∷ [])) ≡ int_max x (x +ℤ r.suffix))
  ends_more =
      elim (max_cases x (x +ℤ r.suffix)) [
        | inl e ↦ (length xs, omega (arith, length_push xs x), last_alone xs x ∙ sym e)
        | inr e ↦
            let (j, few, is) = h.ends in
            (j, omega (arith, length_push xs x), omega (arith, ints, end_of_push xs x j (omega arith), is, e))
      ]

  ends_most_more : (j : ℕ) → j < length (xs ++ x ∷ []) → total (drop j (xs ++ x ∷ [])) ≤ℤ int_max x (x +ℤ r.suffix)
  ends_most_more j few =
      elim (cases_lt j (length xs)) [
        | inl inside ↦ omega (arith, ints, clamps, end_of_push xs x j (omega arith), h.ends_most j inside)
        | inr last ↦ let e : j ≡ length xs = omega (arith, length_push xs x) in rw e (rw (last_alone xs x) (omega (arith, ints, clamps)))
      ]

  of_more : KeepsEnds (xs ++ x ∷ []) (join_totals r (totals_of x))
  of_more = record {
    all = ap (λ t. t +ℤ x) h.all ∙ sym (total-push xs x);
    begins = begins_more;
    begins_most = begins_most_more;
    ends = ends_more;
    ends_most = ends_most_more;
  }

-- one step of the fold keeps it so
one_more : (xs : List ℤ) (s : Option RunTotals) (x : ℤ) → AreEnds xs s → AreEnds (xs ++ x ∷ []) (join_of_both join_totals s (Some (totals_of x)))
one_more xs None x e = subst (λ ys. KeepsEnds (ys ++ x ∷ []) (totals_of x)) (sym e) (of_one x)
one_more xs (Some r) x h = of_more xs r x h

-- a fold that goes on keeps it so
going_on : (xs : List ℤ) (s : Option RunTotals) (ys : List ℤ) → AreEnds xs s → AreEnds (xs ++ ys) (fold (λ t x. join_of_both join_totals t (Some (totals_of x))) s ys)
going_on xs s [] h = subst (λ zs. AreEnds zs s) (sym (append-nil xs)) h
going_on xs s (y ∷ ys) h =
    let t = join_of_both join_totals s (Some (totals_of y)) in
    subst (λ zs. AreEnds zs (fold (λ u x. join_of_both join_totals u (Some (totals_of x))) t ys)) (append_assoc xs (y ∷ []) ys)
    (going_on (xs ++ y ∷ []) t ys (one_more xs s y h))

-- the fold of a list is true of its beginnings and endings
pub fold_of-ends : (xs : List ℤ) → AreEnds xs (fold_of best_operations xs)
fold_of-ends xs = going_on [] None xs refl
