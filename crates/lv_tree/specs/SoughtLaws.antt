-- That tests on the folds by which the kinds are kept say whether a list has what is sought.
use Rattle.std.specs.Prelude.{◌≡◌, ℕ, ℤ, Bool, true, false, ◌+◌, ◌-◌, ◌<◌, ◌≤◌, ◌<ℤ◌, ◌≤ℤ◌, Option, Some, None, List, [], length, take, drop, slice_range, All, int_le, option_map, MatchOption}
use Rattle.std.proofs.Common.{ap, sym, subst, ◌∙◌, inl, inr, arith}
use Rattle.std.specs.Int.{int_min, int_max}
use Rattle.std.proofs.lemmas.Bool.{cases_lt}
use Rattle.std.proofs.lemmas.Int.{ints}
use Rattle.std.proofs.lemmas.List.Elements.{All-contains, All-drop, All-nil, All-take, All-weaker}
use Rattle.lv_geometry.specs.Elements.{IsElement}
use Rattle.lv_bodies.specs.BareLaws.{bare-is-extreme, runs-is-best}
use Rattle.lv_bodies.specs.BestLaws.{fold_of-best}
use Rattle.lv_bodies.specs.Body.{Operations, fold_of}
use Rattle.lv_bodies.specs.ExtremeLaws.{downward, fold_of-greatest, fold_of-least, upward}
use Rattle.lv_bodies.specs.Extremes.{highest_operations, lowest_operations}
use Rattle.lv_bodies.specs.Plain.{IsPlainBest, IsPlainGreatest, IsPlainLeast, total}
use Rattle.lv_bodies.specs.PlainLaws.{plain_best-is, plain_greatest-is, plain_least-is}
use Rattle.lv_bodies.specs.RunTotals.{runs_operations}
use Rattle.lv_bodies.specs.declared.best.RunTotals.{RunTotals}
use Rattle.lv_bodies.specs.declared.kinds.Kind.TheVariants as kind
use Rattle.lv_edits.proofs.Slices.{length-slice_range}
use Rattle.lv_tree.specs.KindSummaries.{summary_by}
use Rattle.lv_tree.specs.OfSixLaws.{best-part, greatest-part, least-part}
use Rattle.lv_tree.specs.Searches.{FindsEnd, FindsStart}
use Rattle.lv_tree.specs.Sought.{Misses, best_in, greatest_in, least_in}
use Rattle.lv_tree.specs.Turns.{HasNoEnd, IsEndAt, IsStartAt}
use Rattle.lv_tree.specs.declared.kind_summaries.KindSummary.{KindSummary}
use Rattle.lv_tree.specs.declared.sought.Sought.{Sought}
use Rattle.lv_tree.specs.declared.sought.Sought.TheVariants.{AtMost, AtLeast, Run, Beginning, Ending}
use Rattle.lv_tree.specs.RunEndLaws.{AreEnds, KeepsEnds, fold_of-ends}
use Rattle.lv_tree.specs.SliceLaws.{nothing_here}

-- a test on the fold of some elements says whether they have what is sought
pub record Tells {S : Type 0} (o : Operations S) (test : S → Bool) (sought : Sought) : Type 0 where
  pub missed : (xs : List ℤ) → 0 < length xs → All IsElement xs → test (fold_of o xs) ≡ false → Misses sought xs
  pub met : (xs : List ℤ) → 0 < length xs → All IsElement xs → test (fold_of o xs) ≡ true → Misses sought xs → ⊥

-- what a test of two numbers says
pub not_most : (x y : ℤ) → int_le x y ≡ false → y <ℤ x
not_most x y test = grind (arith, ints)

most : (x y : ℤ) → int_le x y ≡ true → x ≤ℤ y
most x y test = grind (arith, ints)

-- three numbers in order
below_bound : (x y z : ℤ) → x <ℤ y → y ≤ℤ z → x <ℤ z
below_bound x y z h k = omega (arith, ints)

below_most : (x y z : ℤ) → x ≤ℤ y → y <ℤ z → x <ℤ z
below_most x y z h k = omega (arith, ints)

-- no number is below one that is at most it
not_both : (x y : ℤ) → x ≤ℤ y → y <ℤ x → ⊥
not_both x y h k = omega (arith, ints)

module _ (xs : List ℤ) (some : 0 < length xs) (elements : All IsElement xs) where
  -- the folds are what they are said to be
  lowest_is : IsPlainLeast xs (Some (fold_of lowest_operations xs))
  lowest_is = subst (IsPlainLeast xs) (sym (bare-is-extreme int_min _ upward xs some elements ∙ fold_of-least xs)) (plain_least-is xs)

  highest_is : IsPlainGreatest xs (Some (fold_of highest_operations xs))
  highest_is = subst (IsPlainGreatest xs) (sym (bare-is-extreme int_max _ downward xs some elements ∙ fold_of-greatest xs)) (plain_greatest-is xs)

  runs_are : IsPlainBest xs (Some (fold_of runs_operations xs).best)
  runs_are = subst (IsPlainBest xs) (sym (ap (option_map (λ (r : RunTotals). r.best)) (runs-is-best xs some elements) ∙ fold_of-best xs)) (plain_best-is xs)

  ends_are : KeepsEnds xs (fold_of runs_operations xs)
  ends_are = subst (AreEnds xs) (sym (runs-is-best xs some elements)) (fold_of-ends xs)

-- the lowest element says whether some element is at most so great
pub at_most_told : (b : ℤ) → Tells lowest_operations (λ lowest. int_le lowest b) (AtMost b)
at_most_told b = record {
  missed = λ xs some elements test.
      let r = fold_of lowest_operations xs in
      let is = lowest_is xs some elements in
      All-weaker (λ x. r ≤ℤ x) (λ x. b <ℤ x) (λ x h. below_bound b r x (not_most r b test) h) xs is.bound;
  met = λ xs some elements test misses.
      let r = fold_of lowest_operations xs in
      let is = lowest_is xs some elements in
      not_both r b (most r b test) (All-contains (λ x. b <ℤ x) xs r misses is.reached);
}

-- the highest element says whether some element is at least so great
pub at_least_told : (b : ℤ) → Tells highest_operations (λ highest. int_le b highest) (AtLeast b)
at_least_told b = record {
  missed = λ xs some elements test.
      let r = fold_of highest_operations xs in
      let is = highest_is xs some elements in
      All-weaker (λ x. x ≤ℤ r) (λ x. x <ℤ b) (λ x h. below_most x r b h (not_most b r test)) xs is.bound;
  met = λ xs some elements test misses.
      let r = fold_of highest_operations xs in
      let is = highest_is xs some elements in
      not_both b r (most b r test) (All-contains (λ x. x <ℤ b) xs r misses is.reached);
}

-- the best run says whether some run adds up to so much
pub run_told : (b : ℤ) → Tells runs_operations (λ runs. int_le b runs.best) (Run b)
run_told b = record {
  missed = λ xs some elements test i j order few.
      let r = (fold_of runs_operations xs).best in
      let is = runs_are xs some elements in
      below_most (total (slice_range xs i j)) r b (is.bound i j order few) (not_most b r test);
  met = λ xs some elements test misses.
      let r = (fold_of runs_operations xs).best in
      let is = runs_are xs some elements in
      let (i, j, order, few, adds_up) = is.reached in
      not_both b r (most b r test) (subst (λ t. t <ℤ b) adds_up (misses i j order few));
}

-- the greatest beginning says whether some beginning adds up to so much
pub beginning_told : (b : ℤ) → Tells runs_operations (λ runs. int_le b runs.prefix) (Beginning b)
beginning_told b = record {
  missed = λ xs some elements test j least few.
      let r = (fold_of runs_operations xs).prefix in
      let is = ends_are xs some elements in
      below_most (total (take j xs)) r b (is.begins_most j least few) (not_most b r test);
  met = λ xs some elements test misses.
      let r = (fold_of runs_operations xs).prefix in
      let is = ends_are xs some elements in
      let (j, least, few, adds_up) = is.begins in
      not_both b r (most b r test) (subst (λ t. t <ℤ b) adds_up (misses j least few));
}

-- the greatest ending says whether some ending adds up to so much
pub ending_told : (b : ℤ) → Tells runs_operations (λ runs. int_le b runs.suffix) (Ending b)
ending_told b = record {
  missed = λ xs some elements test j few.
      let r = (fold_of runs_operations xs).suffix in
      let is = ends_are xs some elements in
      below_most (total (drop j xs)) r b (is.ends_most j few) (not_most b r test);
  met = λ xs some elements test misses.
      let r = (fold_of runs_operations xs).suffix in
      let is = ends_are xs some elements in
      let (j, few, adds_up) = is.ends in
      not_both b r (most b r test) (subst (λ t. t <ℤ b) adds_up (misses j few));
}

-- no elements have nothing of what is sought
misses_nothing : (s : Sought) → Misses s []
misses_nothing (AtMost b) = All-nil (λ x. b <ℤ x)
misses_nothing (AtLeast b) = All-nil (λ x. x <ℤ b)
misses_nothing (Run b) = λ i j order few. absurd (omega arith)
misses_nothing (Beginning b) = λ j some few. absurd (omega arith)
misses_nothing (Ending b) = λ j few. absurd (omega arith)

module _ {S : Type 0} (o : Operations S) (test : S → Bool) (sought : Sought) (told : Tells o test sought) (xs : List ℤ) (elements : All IsElement xs) where
  -- the elements of a range
  elements_of : (a b : ℕ) → All IsElement (slice_range xs a b)
  elements_of a b = All-take IsElement (b - a) (drop a xs) (All-drop IsElement a xs elements)

  -- a range with which the test fails has nothing, and neither has one of no elements
  missed_in : (a b : ℕ) → a ≤ b → b ≤ length xs → (a < b → test (fold_of o (slice_range xs a b)) ≡ false) → Misses sought (slice_range xs a b)
  missed_in a b order inside fails =
      elim (cases_lt a b) [
        | inl apart ↦ told.missed (slice_range xs a b) (omega (arith, apart, length-slice_range xs a b order inside)) (elements_of a b) (fails apart)
        | inr none ↦ let here : a ≡ b = omega arith in subst (λ n. Misses sought (slice_range xs a n)) here (subst (Misses sought) (sym (nothing_here xs a)) (misses_nothing sought))
      ]

  -- one with which it passes has something
  met_in : (a b : ℕ) → a < b → b ≤ length xs → test (fold_of o (slice_range xs a b)) ≡ true → Misses sought (slice_range xs a b) → ⊥
  met_in a b apart inside passes = told.met (slice_range xs a b) (omega (arith, apart, length-slice_range xs a b (omega arith) inside)) (elements_of a b) passes

  module _ (lo hi : ℕ) (order : lo ≤ hi) (inside : hi ≤ length xs) where
    -- at the place at which the test becomes true there is what is sought, and not with one element less
    pub finds_end : (r : Option ℕ) → MatchOption r (HasNoEnd o test xs lo hi) (λ end. IsEndAt o test xs lo hi end) → FindsEnd sought xs lo hi r
    finds_end None none = missed_in lo hi order inside none
    finds_end (Some end) is = record {
      after = is.after;
      inside = is.inside;
      met = met_in lo end is.after (omega (arith, is.inside, inside)) is.passes;
      missed = missed_in lo (end - 1) (omega (arith, is.after)) (omega (arith, is.inside, inside)) is.before;
    }

    pub finds_start : (r : Option ℕ) → MatchOption r (HasNoEnd o test xs lo hi) (λ start. IsStartAt o test xs lo hi start) → FindsStart sought xs lo hi r
    finds_start None none = missed_in lo hi order inside none
    finds_start (Some start) is = record {
      inside = is.inside;
      before = is.before;
      met = met_in start hi is.before inside is.passes;
      missed = missed_in (start + 1) hi (omega (arith, is.before)) inside is.after;
    }

-- the least, the greatest and the best run that a summary has are the plain ones of its list
module _ (table : List (List ℕ)) (xs : List ℤ) where
  pub least_told : (s : KindSummary) (r : Option ℤ) → r ≡ least_in s → s ≡ summary_by table kind.Least xs → IsPlainLeast xs r
  least_told s r told is = subst (IsPlainLeast xs) (sym (told ∙ ap least_in is ∙ least-part table xs ∙ fold_of-least xs)) (plain_least-is xs)

  pub greatest_told : (s : KindSummary) (r : Option ℤ) → r ≡ greatest_in s → s ≡ summary_by table kind.Greatest xs → IsPlainGreatest xs r
  greatest_told s r told is = subst (IsPlainGreatest xs) (sym (told ∙ ap greatest_in is ∙ greatest-part table xs ∙ fold_of-greatest xs)) (plain_greatest-is xs)

  pub best_told : (s : KindSummary) (r : Option RunTotals) → r ≡ best_in s → s ≡ summary_by table kind.Best xs → IsPlainBest xs (option_map (λ r. r.best) r)
  best_told s r told is = subst (IsPlainBest xs) (sym (ap (option_map (λ (t : RunTotals). t.best)) (told ∙ ap best_in is ∙ best-part table xs) ∙ fold_of-best xs)) (plain_best-is xs)
