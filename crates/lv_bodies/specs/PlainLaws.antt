-- What the plain least, greatest and best of a list are said to be, they are.
use Rattle.std.specs.Prelude.{◌≡◌, ◌↔◌, ℕ, ℤ, ◌+◌, ◌-◌, ◌<◌, ◌≤◌, ◌≤ℤ◌, Option, Some, None, List, [], ◌∷◌, length, take, drop, map, fold, All, Contains, slice_range, refl}
use Rattle.std.specs.Int.{int_min, int_max}
use Rattle.std.specs.List.{range_with_len}
use Rattle.std.proofs.Common.{arith, ap, sym, subst}
use Rattle.std.proofs.lemmas.Int.{ints, fold-int_max_bounds, fold-int_max_reached, fold-int_min_bounds, fold-int_min_reached}
use Rattle.std.proofs.lemmas.List.{length-drop}
use Rattle.std.proofs.lemmas.List.Elements.{All-cons, All-map, All-weaker, All-contains}
use Rattle.std.proofs.lemmas.Option.{IfSome_then}
use Rattle.lv_bodies.specs.ElementLaws.{Contains-map, Contains-range, Contains-first, Contains-flat_map, All-range, All-flat_map}
use Rattle.lv_bodies.specs.Plain.{HasTotal, IsPlainBest, IsPlainGreatest, IsPlainLeast, IsRunIn, plain_best, plain_greatest, plain_least, runs_at, runs_of, total}

-- the least of a list is a bound that is reached
pub plain_least-is : (xs : List ℤ) → IsPlainLeast xs (plain_least xs)
plain_least-is [] = record { none = (λ _. refl, λ _. refl); reached = _; bound = _ }
plain_least-is (x ∷ xs) =
    let bounds = fold-int_min_bounds x xs _ refl in
    record {
      none = ((λ e. absurd (cc)), (λ e. absurd (cc)));
      reached = Contains-first x _ xs (fold-int_min_reached x xs _ refl);
      bound = All-cons (λ y. fold int_min x xs ≤ℤ y) x xs bounds.0 bounds.1;
    }

-- the greatest of a list is a bound that is reached
pub plain_greatest-is : (xs : List ℤ) → IsPlainGreatest xs (plain_greatest xs)
plain_greatest-is [] = record { none = (λ _. refl, λ _. refl); reached = _; bound = _ }
plain_greatest-is (x ∷ xs) =
    let bounds = fold-int_max_bounds x xs _ refl in
    record {
      none = ((λ e. absurd (cc)), (λ e. absurd (cc)));
      reached = Contains-first x _ xs (fold-int_max_reached x xs _ refl);
      bound = All-cons (λ y. y ≤ℤ fold int_max x xs) x xs bounds.0 bounds.1;
    }

-- the runs of a list are in it
runs_are_in : (xs : List ℤ) → All (IsRunIn xs) (runs_of xs)
runs_are_in xs =
    All-flat_map (IsRunIn xs) (runs_at xs) (range_with_len 0 (length xs))
    (All-range (λ i. All (IsRunIn xs) (runs_at xs i)) (length xs) (λ i p.
    All-map (IsRunIn xs) (λ n. take (n + 1) (drop i xs)) (range_with_len 0 (length (drop i xs)))
    (All-range (λ n. IsRunIn xs (take (n + 1) (drop i xs))) (length (drop i xs)) (λ n q. record {
      from = i;
      to = i + n + 1;
      before = omega arith;
      within = omega (arith, length-drop i xs);
      is = ap (λ k. take k (drop i xs)) (omega arith);
    }))))

-- each part that is not empty is among the runs
each_run : (xs : List ℤ) (i j : ℕ) → i < j → j ≤ length xs → Contains (runs_of xs) (slice_range xs i j)
each_run xs i j p q =
    let few : j - i - 1 < length (drop i xs) = omega (arith, length-drop i xs) in
    let at : Contains (runs_at xs i) (take (j - i - 1 + 1) (drop i xs)) =
    Contains-map (λ n. take (n + 1) (drop i xs)) (range_with_len 0 (length (drop i xs))) (j - i - 1) (Contains-range (j - i - 1) (length (drop i xs)) few) in
    let run : Contains (runs_at xs i) (slice_range xs i j) = subst (λ k. Contains (runs_at xs i) (take k (drop i xs))) (omega arith) at in
    Contains-flat_map (runs_at xs) (range_with_len 0 (length xs)) i (slice_range xs i j) (Contains-range i (length xs) (omega arith)) run

-- the totals of the runs are had
totals_are_had : (xs : List ℤ) → All (HasTotal xs) (map total (runs_of xs))
totals_are_had xs =
    All-map (HasTotal xs) total (runs_of xs)
    (All-weaker (IsRunIn xs) (λ run. HasTotal xs (total run)) (λ run r. (r.from, r.to, r.before, r.within, ap total (sym r.is)))
    (runs_of xs) (runs_are_in xs))

-- the total of each part that is not empty is among those of the runs
each_total : (xs : List ℤ) (i j : ℕ) → i < j → j ≤ length xs → Contains (map total (runs_of xs)) (total (slice_range xs i j))
each_total xs i j p q = Contains-map total (runs_of xs) (slice_range xs i j) (each_run xs i j p q)

-- there is no total if and only if there is no element
no_totals : (xs : List ℤ) → (map total (runs_of xs) ≡ []) ↔ (xs ≡ [])
no_totals [] = (λ _. refl, λ _. refl)
no_totals (x ∷ xs) =
    (λ e. absurd (omega (arith, ap length e, (each_total (x ∷ xs) 0 1 (omega arith) (omega arith)).1)), λ e. absurd (cc))

-- the greatest of all totals is a bound that is reached
pub plain_best-is : (xs : List ℤ) → IsPlainBest xs (plain_best xs)
plain_best-is xs =
    let greatest = plain_greatest-is (map total (runs_of xs)) in
    record {
      none = (λ h. (no_totals xs).0 (greatest.none.0 h), λ e. greatest.none.1 ((no_totals xs).1 e));
      reached = IfSome_then (plain_best xs) greatest.reached (λ best h. All-contains (HasTotal xs) (map total (runs_of xs)) best (totals_are_had xs) h);
      bound = IfSome_then (plain_best xs) greatest.bound (λ best h i j p q.
          All-contains (λ x. x ≤ℤ best) (map total (runs_of xs)) (total (slice_range xs i j)) h (each_total xs i j p q));
    }

-- two best totals of a list are one
pub same_best : (xs : List ℤ) (r s : Option ℤ) → IsPlainBest xs r → IsPlainBest xs s → r ≡ s
same_best xs None None p q = refl
same_best xs None (Some b) p q = let e = q.none.1 (p.none.0 refl) in absurd (cc)
same_best xs (Some a) None p q = let e = p.none.1 (q.none.0 refl) in absurd (cc)
same_best xs (Some a) (Some b) p q =
    let least : a ≤ℤ b = subst (λ t. t ≤ℤ b) p.reached.4 (q.bound p.reached.0 p.reached.1 p.reached.2 p.reached.3) in
    let most : b ≤ℤ a = subst (λ t. t ≤ℤ a) q.reached.4 (p.bound q.reached.0 q.reached.1 q.reached.2 q.reached.3) in
    ap Some (omega (arith, ints))
