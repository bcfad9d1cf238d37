-- What the ends that a search finds say of the elements of a range.
use Rattle.std.specs.Prelude.{◌≡◌, ℕ, ℤ, pos, ◌+◌, ◌-◌, ◌<◌, ◌≤◌, ◌<ℤ◌, ◌≤ℤ◌, Option, Some, None, List, [], ◌∷◌, ◌++◌, length, take, drop, slice_get, slice_range, All, Contains, get_or}
use Rattle.std.proofs.Common.{ap, sym, subst, ◌∙◌, inl, inr, arith}
use Rattle.std.proofs.lemmas.Bool.{cases_lt}
use Rattle.std.proofs.lemmas.Int.{by_lt_z, ints}
use Rattle.std.proofs.lemmas.List.Elements.{All-contains, All-cons, All-push, Contains-append_left, Contains-push}
use Rattle.std.proofs.lemmas.Option.{get_or_from_slice_get, slice_get-get_or}
use Rattle.lv_bodies.specs.Plain.{IsPlainBest, IsPlainGreatest, IsPlainLeast, total}
use Rattle.lv_edits.proofs.Slices.{length-slice_range, slice_range-more}
use Rattle.lv_tree.specs.Searches.{FindsEnd, FindsStart, IsFirstEnd, IsLastStart}
use Rattle.lv_tree.specs.Sought.{Misses, sought_within}
use Rattle.lv_tree.specs.Where.{IsBestRun, IsEndReached, IsFirstGreatest, IsFirstIndex, IsFirstLeast, IsFirstWithin, IsLastIndex, IsLastWithin, IsOutside, IsReached, IsReachedBack, IsStartReached, IsWithin}
use Rattle.lv_tree.specs.declared.places.Bound.{Bound}
use Rattle.lv_tree.specs.declared.places.Bound.TheVariants as bounds
use Rattle.lv_tree.specs.declared.sought.Sought.TheVariants.{AtMost, AtLeast, Run, Beginning, Ending}
use Rattle.lv_tree.specs.SliceLaws.{back_of_slice, front_of_slice, nothing_here, range_cut, slice_of_one, slice_of_slice}

-- no number is below itself
above_itself : (x : ℤ) → x <ℤ x → ⊥
above_itself x h = omega (arith, ints)

-- the last element of a range that ends earlier: its index, and that the longer range contains it
record IsLastElement (xs : List ℤ) (lo hi end : ℕ) (x : ℤ) : Type 0 where
  stands : slice_get xs (end - 1) ≡ Some x
  parts : slice_range xs lo end ≡ slice_range xs lo (end - 1) ++ x ∷ []
  there : Contains (slice_range xs lo hi) x

module _ (xs : List ℤ) (lo hi : ℕ) (order : lo ≤ hi) (inside : hi ≤ length xs) where
  last_element : (end : ℕ) → lo < end → end ≤ hi → IsLastElement xs lo hi end (get_or xs (end - 1) (pos 0))
  last_element end after few =
      let x = get_or xs (end - 1) (pos 0) in
      let at : slice_get xs (end - 1) ≡ Some x = slice_get-get_or xs (end - 1) (pos 0) (omega arith) in
      let again : end ≡ end - 1 + 1 = omega arith in
      let parts : slice_range xs lo end ≡ slice_range xs lo (end - 1) ++ x ∷ [] =
      ap (slice_range xs lo) again ∙ slice_range-more xs lo (end - 1) x (omega arith) (omega arith) (sym (get_or_from_slice_get xs (end - 1) x x at)) in
      record {
        stands = at;
        parts = parts;
        there =
            subst (λ ys. Contains ys x) (sym (range_cut xs lo end hi (omega arith) few))
            (Contains-append_left (slice_range xs lo end) (slice_range xs end hi) x
            (subst (λ ys. Contains ys x) (sym parts) (Contains-push (slice_range xs lo (end - 1)) x)));
      }

  -- there is no element only if the range is empty
  pub empty_range : slice_range xs lo hi ≡ [] → lo ≡ hi
  empty_range none = omega (arith, length-slice_range xs lo hi order inside, ap length none)

  -- the least element is the last one before the end that is found for it
  pub least_stands : (value : ℤ) (end : ℕ) → IsPlainLeast (slice_range xs lo hi) (Some value) → IsFirstEnd (AtMost value) xs lo hi end → IsFirstLeast xs lo hi (end - 1) value
  least_stands value end is f =
      let x = get_or xs (end - 1) (pos 0) in
      let last = last_element end f.after f.inside in
      let most : x ≤ℤ value = by_lt_z value x (λ (above : value <ℤ x). absurd (f.met (subst (All (λ y. value <ℤ y)) (sym last.parts) (All-push (λ y. value <ℤ y) (slice_range xs lo (end - 1)) x f.missed above)))) (λ (h : x ≤ℤ value). h) in
      let bound : value ≤ℤ x = All-contains (λ y. value ≤ℤ y) (slice_range xs lo hi) x is.bound last.there in
      let same : x ≡ value = omega (arith, ints) in
      record { from = omega (arith, f.after); before = omega (arith, f.after, f.inside); stands = last.stands ∙ ap Some same; least = is.bound; first = f.missed }

  -- and is found
  pub least_is_met : (value : ℤ) → IsPlainLeast (slice_range xs lo hi) (Some value) → Misses (AtMost value) (slice_range xs lo hi) → ⊥
  least_is_met value is misses = above_itself value (All-contains (λ y. value <ℤ y) (slice_range xs lo hi) value misses is.reached)

  -- the greatest element is the last one before the end that is found for it
  pub greatest_stands : (value : ℤ) (end : ℕ) → IsPlainGreatest (slice_range xs lo hi) (Some value) → IsFirstEnd (AtLeast value) xs lo hi end → IsFirstGreatest xs lo hi (end - 1) value
  greatest_stands value end is f =
      let x = get_or xs (end - 1) (pos 0) in
      let last = last_element end f.after f.inside in
      let least : value ≤ℤ x = by_lt_z x value (λ (below : x <ℤ value). absurd (f.met (subst (All (λ y. y <ℤ value)) (sym last.parts) (All-push (λ y. y <ℤ value) (slice_range xs lo (end - 1)) x f.missed below)))) (λ (h : value ≤ℤ x). h) in
      let bound : x ≤ℤ value = All-contains (λ y. y ≤ℤ value) (slice_range xs lo hi) x is.bound last.there in
      let same : x ≡ value = omega (arith, ints) in
      record { from = omega (arith, f.after); before = omega (arith, f.after, f.inside); stands = last.stands ∙ ap Some same; greatest = is.bound; first = f.missed }

  pub greatest_is_met : (value : ℤ) → IsPlainGreatest (slice_range xs lo hi) (Some value) → Misses (AtLeast value) (slice_range xs lo hi) → ⊥
  greatest_is_met value is misses = above_itself value (All-contains (λ y. y <ℤ value) (slice_range xs lo hi) value misses is.reached)

  -- what holds of each run of a range holds of each run of the list that is inside the range
  runs_in : (P : ℤ → Type 0) → ((a b : ℕ) → a < b → b ≤ length (slice_range xs lo hi) → P (total (slice_range (slice_range xs lo hi) a b))) → (i j : ℕ) → lo ≤ i → i < j → j ≤ hi → P (total (slice_range xs i j))
  runs_in P each i j low before high =
      let long = length-slice_range xs lo hi order inside in
      let first : lo + (i - lo) ≡ i = omega arith in
      let last : lo + (j - lo) ≡ j = omega arith in
      let same : slice_range (slice_range xs lo hi) (i - lo) (j - lo) ≡ slice_range xs i j =
      slice_of_slice xs lo hi (i - lo) (j - lo) (omega arith) (omega arith) ∙ ap (λ n. slice_range xs n (lo + (j - lo))) first ∙ ap (slice_range xs i) last in
      subst (λ ys. P (total ys)) same (each (i - lo) (j - lo) (omega arith) (omega (arith, long)))

  -- and the other way round
  runs_within : (P : ℤ → Type 0) → ((i j : ℕ) → lo ≤ i → i < j → j ≤ hi → P (total (slice_range xs i j))) → (a b : ℕ) → a < b → b ≤ length (slice_range xs lo hi) → P (total (slice_range (slice_range xs lo hi) a b))
  runs_within P each a b before few =
      let long = length-slice_range xs lo hi order inside in
      subst (λ ys. P (total ys)) (sym (slice_of_slice xs lo hi a b (omega arith) (omega (arith, long)))) (each (lo + a) (lo + b) (omega arith) (omega arith) (omega (arith, long)))

  -- the best run is found
  pub best_is_met : (sum : ℤ) → IsPlainBest (slice_range xs lo hi) (Some sum) → Misses (Run sum) (slice_range xs lo hi) → ⊥
  best_is_met sum is misses =
      let (i, j, before, few, adds_up) = is.reached in
      above_itself sum (subst (λ t. t <ℤ sum) adds_up (misses i j before few))

  -- what begins a range that has no such beginning
  begins : (sum : ℤ) → Misses (Beginning sum) (slice_range xs lo hi) → (e : ℕ) → lo < e → e ≤ hi → total (slice_range xs lo e) <ℤ sum
  begins sum misses e after few =
      let long = length-slice_range xs lo hi order inside in
      let last : lo + (e - lo) ≡ e = omega arith in
      let same : take (e - lo) (slice_range xs lo hi) ≡ slice_range xs lo e = front_of_slice xs lo hi (e - lo) (omega arith) ∙ ap (slice_range xs lo) last in
      subst (λ ys. total ys <ℤ sum) same (misses (e - lo) (omega arith) (omega (arith, long)))

  -- the other way round
  begins_within : (sum : ℤ) → ((e : ℕ) → lo < e → e ≤ hi → total (slice_range xs lo e) <ℤ sum) → Misses (Beginning sum) (slice_range xs lo hi)
  begins_within sum each = λ j some few.
      let long = length-slice_range xs lo hi order inside in
      subst (λ ys. total ys <ℤ sum) (sym (front_of_slice xs lo hi j (omega (arith, long)))) (each (lo + j) (omega arith) (omega (arith, long)))

  -- no elements add up to nothing
  total_of_none : total (slice_range xs lo lo) ≡ pos 0
  total_of_none = ap total (nothing_here xs lo)

  -- if the sum is 0 or less, it is reached at once
  pub reached_at_once : (sum : ℤ) → sum ≤ℤ pos 0 → IsReached xs lo hi sum lo
  reached_at_once sum small = record {
    from = omega arith;
    inside = order;
    reaches = subst (λ t. sum ≤ℤ t) (sym total_of_none) small;
    least = λ e low before. absurd (omega arith);
  }

  -- if no beginning has so much, it is reached nowhere
  reached_nowhere : (sum : ℤ) → pos 0 <ℤ sum → Misses (Beginning sum) (slice_range xs lo hi) → IsEndReached xs lo hi sum None
  reached_nowhere sum some misses = λ e low few.
      elim (cases_lt lo e) [
        | inl after ↦ begins sum misses e after few
        | inr first ↦ let here : lo ≡ e = omega arith in subst (λ n. total (slice_range xs lo n) <ℤ sum) here (subst (λ t. t <ℤ sum) (sym total_of_none) some)
      ]

-- the best run is between the start and the end that are found for it
module _ (xs : List ℤ) (lo hi : ℕ) (inside : hi ≤ length xs) (sum : ℤ) (to from : ℕ) (f : IsFirstEnd (Run sum) xs lo hi to) (g : IsLastStart (Run sum) xs lo to from) where
  -- runs that end before it
  ends_before : (i j : ℕ) → lo ≤ i → i < j → j < to → total (slice_range xs i j) <ℤ sum
  ends_before i j low before less = runs_in xs lo (to - 1) (omega (arith, f.after)) (omega (arith, f.inside)) (λ t. t <ℤ sum) f.missed i j low before (omega arith)

  -- and that end with it and start later
  starts_behind : (i : ℕ) → from < i → i < to → total (slice_range xs i to) <ℤ sum
  starts_behind i later before = runs_in xs (from + 1) to (omega arith) (omega (arith, f.inside)) (λ t. t <ℤ sum) g.missed i to (omega arith) before (omega arith)

  -- its total is not less
  not_less : sum ≤ℤ total (slice_range xs from to)
  not_less =
      by_lt_z (total (slice_range xs from to)) sum
      (λ (less : total (slice_range xs from to) <ℤ sum). absurd (g.met (runs_within xs from to (omega (arith, g.before)) (omega (arith, f.inside)) (λ t. t <ℤ sum) (λ i j low before high.
      elim (cases_lt j to) [
        | inl sooner ↦ ends_before i j (omega (arith, g.inside)) before sooner
        | inr last ↦
            let at : to ≡ j = omega arith in
            subst (λ n. total (slice_range xs i n) <ℤ sum) at (elim (cases_lt from i) [
              | inl later ↦ starts_behind i later (omega arith)
              | inr first ↦ let here : from ≡ i = omega arith in subst (λ n. total (slice_range xs n to) <ℤ sum) here less
            ])
      ]))))
      (λ (h : sum ≤ℤ total (slice_range xs from to)). h)

  pub best_stands : IsPlainBest (slice_range xs lo hi) (Some sum) → IsBestRun xs lo hi from to sum
  best_stands is =
      let greatest = runs_in xs lo hi (omega (arith, f.after, f.inside)) inside (λ t. t ≤ℤ sum) is.bound in
      let most : total (slice_range xs from to) ≤ℤ sum = greatest from to g.inside g.before f.inside in
      let least = not_less in
      record {
        starts = g.inside;
        some = g.before;
        ends = f.inside;
        adds_up = omega (arith, ints);
        greatest = greatest;
        least_end = ends_before;
        greatest_start = starts_behind;
      }

-- the sum is reached at the end that is found for it
module _ (xs : List ℤ) (lo hi : ℕ) (inside : hi ≤ length xs) (sum : ℤ) (end : ℕ) (some : pos 0 <ℤ sum) (f : IsFirstEnd (Beginning sum) xs lo hi end) where
  -- and at no end before
  not_before : (e : ℕ) → lo ≤ e → e < end → total (slice_range xs lo e) <ℤ sum
  not_before e low before = reached_nowhere xs lo (end - 1) (omega (arith, f.after)) (omega (arith, f.inside)) sum some f.missed e low (omega arith)

  end_reached : IsReached xs lo hi sum end
  end_reached = record {
    from = omega (arith, f.after);
    inside = f.inside;
    reaches =
        by_lt_z (total (slice_range xs lo end)) sum
        (λ (less : total (slice_range xs lo end) <ℤ sum). absurd (f.met (begins_within xs lo end (omega (arith, f.after)) (omega (arith, f.inside)) sum (λ e after few.
        elim (cases_lt e end) [
          | inl sooner ↦ not_before e (omega arith) sooner
          | inr last ↦ let here : end ≡ e = omega arith in subst (λ n. total (slice_range xs lo n) <ℤ sum) here less
        ]))))
        (λ (h : sum ≤ℤ total (slice_range xs lo end)). h);
    least = not_before;
  }

-- what a search for a sum finds
pub end_found : (xs : List ℤ) (lo hi : ℕ) → lo ≤ hi → hi ≤ length xs → (sum : ℤ) → pos 0 <ℤ sum → (r : Option ℕ) → FindsEnd (Beginning sum) xs lo hi r → IsEndReached xs lo hi sum r
end_found xs lo hi order inside sum some None finds = reached_nowhere xs lo hi order inside sum some finds
end_found xs lo hi order inside sum some (Some end) finds = end_reached xs lo hi inside sum end some finds

-- what a search from the end of a range for a sum finds
module _ (xs : List ℤ) (lo hi : ℕ) (order : lo ≤ hi) (inside : hi ≤ length xs) (sum : ℤ) where
  -- what ends a range that has no such ending
  ends : Misses (Ending sum) (slice_range xs lo hi) → (s : ℕ) → lo ≤ s → s < hi → total (slice_range xs s hi) <ℤ sum
  ends misses s low before =
      let long = length-slice_range xs lo hi order inside in
      let first : lo + (s - lo) ≡ s = omega arith in
      let same : drop (s - lo) (slice_range xs lo hi) ≡ slice_range xs s hi = back_of_slice xs lo hi (s - lo) (omega arith) ∙ ap (λ n. slice_range xs n hi) first in
      subst (λ ys. total ys <ℤ sum) same (misses (s - lo) (omega (arith, long)))

  -- the other way round
  ends_within : ((s : ℕ) → lo ≤ s → s < hi → total (slice_range xs s hi) <ℤ sum) → Misses (Ending sum) (slice_range xs lo hi)
  ends_within each = λ j few.
      let long = length-slice_range xs lo hi order inside in
      subst (λ ys. total ys <ℤ sum) (sym (back_of_slice xs lo hi j (omega (arith, long)))) (each (lo + j) (omega arith) (omega (arith, long)))

  -- if the sum is 0 or less, it is reached at once
  pub reached_back_at_once : sum ≤ℤ pos 0 → IsReachedBack xs lo hi sum hi
  reached_back_at_once small = record {
    from = order;
    inside = omega arith;
    reaches = subst (λ t. sum ≤ℤ t) (sym (ap total (nothing_here xs hi))) small;
    greatest = λ s behind few. absurd (omega arith);
  }

  -- if no ending has so much, it is reached nowhere
  reached_back_nowhere : pos 0 <ℤ sum → Misses (Ending sum) (slice_range xs lo hi) → IsStartReached xs lo hi sum None
  reached_back_nowhere some misses = λ s low few.
      elim (cases_lt s hi) [
        | inl before ↦ ends misses s low before
        | inr last ↦ let here : hi ≡ s = omega arith in subst (λ n. total (slice_range xs n hi) <ℤ sum) here (subst (λ t. t <ℤ sum) (sym (ap total (nothing_here xs hi))) some)
      ]

-- the sum is reached from the start on that is found for it
module _ (xs : List ℤ) (lo hi : ℕ) (inside : hi ≤ length xs) (sum : ℤ) (start : ℕ) (some : pos 0 <ℤ sum) (f : IsLastStart (Ending sum) xs lo hi start) where
  -- and from no start behind it
  not_behind : (s : ℕ) → start < s → s ≤ hi → total (slice_range xs s hi) <ℤ sum
  not_behind s behind few = reached_back_nowhere xs (start + 1) hi (omega (arith, f.before)) inside sum some f.missed s (omega arith) few

  start_reached : IsReachedBack xs lo hi sum start
  start_reached = record {
    from = f.inside;
    inside = omega (arith, f.before);
    reaches =
        by_lt_z (total (slice_range xs start hi)) sum
        (λ (less : total (slice_range xs start hi) <ℤ sum). absurd (f.met (ends_within xs start hi (omega (arith, f.before)) inside sum (λ s low before.
        elim (cases_lt start s) [
          | inl later ↦ not_behind s later (omega arith)
          | inr first ↦ let here : start ≡ s = omega arith in subst (λ n. total (slice_range xs n hi) <ℤ sum) here less
        ]))))
        (λ (h : sum ≤ℤ total (slice_range xs start hi)). h);
    greatest = not_behind;
  }

-- what a search for a sum finds from the other end
pub start_found : (xs : List ℤ) (lo hi : ℕ) → lo ≤ hi → hi ≤ length xs → (sum : ℤ) → pos 0 <ℤ sum → (r : Option ℕ) → FindsStart (Ending sum) xs lo hi r → IsStartReached xs lo hi sum r
start_found xs lo hi order inside sum some None finds = reached_back_nowhere xs lo hi order inside sum some finds
start_found xs lo hi order inside sum some (Some start) finds = start_reached xs lo hi inside sum start some finds

-- if an element within a bound is sought, a list has nothing of it if each element is outside
all_outside : (bound : Bound) (xs : List ℤ) → Misses (sought_within bound) xs → All (IsOutside bound) xs
all_outside (bounds.AtLeast b) xs misses = misses
all_outside (bounds.AtMost b) xs misses = misses

none_within : (bound : Bound) (xs : List ℤ) → All (IsOutside bound) xs → Misses (sought_within bound) xs
none_within (bounds.AtLeast b) xs outside = outside
none_within (bounds.AtMost b) xs outside = outside

-- an element that isn't outside is within
not_outside : (bound : Bound) (x : ℤ) → (IsOutside bound x → ⊥) → IsWithin bound x
not_outside (bounds.AtLeast b) x not = by_lt_z x b (λ (below : x <ℤ b). absurd (not below)) (λ (h : b ≤ℤ x). h)
not_outside (bounds.AtMost b) x not = by_lt_z b x (λ (above : b <ℤ x). absurd (not above)) (λ (h : x ≤ℤ b). h)

module _ (bound : Bound) (xs : List ℤ) (lo hi : ℕ) (inside : hi ≤ length xs) where
  -- the first element within a bound is the last one before the end that is found for it
  first_stands : (end : ℕ) → IsFirstEnd (sought_within bound) xs lo hi end → IsFirstWithin bound xs lo hi (end - 1)
  first_stands end f =
      let x = get_or xs (end - 1) (pos 0) in
      let last = last_element xs lo hi (omega (arith, f.after, f.inside)) inside end f.after f.inside in
      let before = all_outside bound (slice_range xs lo (end - 1)) f.missed in
      record {
        from = omega (arith, f.after);
        before = omega (arith, f.after, f.inside);
        within = (
          x,
          last.stands,
          not_outside bound x (λ out.
              f.met (none_within bound (slice_range xs lo end) (subst (All (IsOutside bound)) (sym last.parts) (All-push (IsOutside bound) (slice_range xs lo (end - 1)) x before out)))),
        );
        first = before;
      }

  -- the last one at the start that is found for it
  last_stands : (start : ℕ) → IsLastStart (sought_within bound) xs lo hi start → IsLastWithin bound xs lo hi start
  last_stands start f =
      let x = get_or xs start (pos 0) in
      let at : slice_get xs start ≡ Some x = slice_get-get_or xs start (pos 0) (omega (arith, f.before, inside)) in
      let one = slice_of_one xs start x (omega (arith, f.before, inside)) (sym (get_or_from_slice_get xs start x x at)) in
      let parts : slice_range xs start hi ≡ x ∷ slice_range xs (start + 1) hi =
      range_cut xs start (start + 1) hi (omega arith) (omega (arith, f.before)) ∙ ap (λ ys. ys ++ slice_range xs (start + 1) hi) one in
      let behind = all_outside bound (slice_range xs (start + 1) hi) f.missed in
      record {
        from = f.inside;
        before = f.before;
        within = (
          x,
          at,
          not_outside bound x (λ out.
              f.met (none_within bound (slice_range xs start hi) (subst (All (IsOutside bound)) (sym parts) (All-cons (IsOutside bound) x (slice_range xs (start + 1) hi) out behind)))),
        );
        last = behind;
      }

  -- what a search for the last one finds
  pub last_found : (r : Option ℕ) → FindsStart (sought_within bound) xs lo hi r → IsLastIndex bound xs lo hi r
  last_found None finds = all_outside bound (slice_range xs lo hi) finds
  last_found (Some start) finds = last_stands start finds

  -- and one for the first
  pub first_found : (end : ℕ) → FindsEnd (sought_within bound) xs lo hi (Some end) → IsFirstIndex bound xs lo hi (Some (end - 1))
  first_found end finds = first_stands end finds

  pub first_not_found : FindsEnd (sought_within bound) xs lo hi None → IsFirstIndex bound xs lo hi None
  first_not_found finds = all_outside bound (slice_range xs lo hi) finds
