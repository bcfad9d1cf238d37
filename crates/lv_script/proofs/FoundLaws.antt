-- A search of the trees finds what a search of the elements finds.
use Rattle.std.proofs.Common.{◌≡◌, ℕ, ℤ, pos, ◌+◌, ◌-◌, ◌<◌, ◌≤◌, ◌<ℤ◌, ◌≤ℤ◌, true, false, Option, Some, None, Result, Ok, Err, List, length, drop, get_or, slice_get, slice_range, int_eq, int_le, All, Contains, option_map, le_refl, refl, sym, ap, ap₂, subst, ◌∙◌, inl, inr, arith}
use Rattle.std.proofs.lemmas.Bool.{cases_lt, false_from_ne_true}
use Rattle.std.proofs.lemmas.Bool.Decides.{Decides-int_eq}
use Rattle.std.proofs.lemmas.Int.{ints}
use Rattle.std.proofs.lemmas.List.{get_or-drop, get_or-take, get_or_default}
use Rattle.std.proofs.lemmas.List.Elements.{All-contains}
use Rattle.std.proofs.lemmas.Option.{get_or_from_slice_get}
use Rattle.lv_bodies.specs.Plain.{IsPlainBest, IsPlainGreatest, IsPlainLeast, plain_best, plain_greatest, plain_least, total}
use Rattle.lv_bodies.specs.declared.kinds.Kind.{Kind}
use Rattle.lv_bodies.specs.declared.kinds.Kind.TheVariants as kind
use Rattle.lv_bodies.specs.PlainLaws.{plain_best-is, plain_greatest-is, plain_least-is, same_best}
use Rattle.lv_lines.specs.Grammar.{◌>>=◌}
use Rattle.lv_edits.proofs.Slices.{length-slice_range}
use Rattle.lv_tree.specs.SliceLaws.{slice_of_slice}
use Rattle.lv_tree.specs.Where.{IsOutside, IsWithin, kind_within}
use Rattle.lv_tree.specs.declared.places.Bound.{Bound}
use Rattle.lv_tree.specs.declared.places.Bound.TheVariants as bounds
use Rattle.lv_series.specs.Places.{IsEndReachedIn, IsFirstIndexIn, IsLastIndexIn, IsPlaceOfBestIn, IsPlaceOfGreatestIn, IsPlaceOfLeastIn, Searches}
use Rattle.lv_series.specs.Series.{Held, SeriesState, element_of, range_refused, slice_of}
use Rattle.lv_series.specs.declared.places.LongPlaced.{LongPlaced}
use Rattle.lv_series.specs.declared.places.LongRun.{LongRun}
use Rattle.lv_series.specs.declared.refusals.LongRefusal.{LongRefusal}
use Rattle.lv_series.proofs.FreeLaws.{free_range}
use Rattle.lv_standing.specs.Queries.{is_within}
use Rattle.lv_script.specs.Searched.{begins_best, best_run, ends_best, first_where, index_of, is_same, last_where}
use Rattle.lv_script.specs.declared.long_commands.Search.TheVariants as sought
use Rattle.lv_script.specs.Values.{Seeks, without_trees}
use Rattle.lv_script.proofs.SearchedLaws.{first_is, first_is_none, last_is, last_is_none}

-- ---- tests

-- of two numbers
at_most : (x y : ℤ) → x ≤ℤ y → int_le x y ≡ true
at_most x y h = grind (arith, ints)

above : (x y : ℤ) → y <ℤ x → int_le x y ≡ false
above x y h = grind (arith, ints)

-- whether one is within a bound
within : (bound : Bound) (x : ℤ) → IsWithin bound x → is_within bound x ≡ true
within (bounds.AtLeast b) x h = at_most b x h
within (bounds.AtMost b) x h = at_most x b h

outside : (bound : Bound) (x : ℤ) → IsOutside bound x → is_within bound x ≡ false
outside (bounds.AtLeast b) x h = above b x h
outside (bounds.AtMost b) x h = above x b h

-- no number is below itself
below_itself : (x : ℤ) → x <ℤ x → ⊥
below_itself x h = omega (arith, ints)

-- whether two are the same
same : (x y : ℤ) → x ≡ y → is_same (Some x) (Some y) ≡ true
same x y is = (Decides-int_eq x y).1 is

other : (x y : ℤ) → (x ≡ y → ⊥) → is_same (Some x) (Some y) ≡ false
other x y not = false_from_ne_true (int_eq x y) (λ is. not ((Decides-int_eq x y).0 is))

-- ---- elements of a range

module _ (xs : List ℤ) (lo hi : ℕ) (inside : hi ≤ length xs) where
  -- each element of a range is one of those of its slice
  element_in : (i : ℕ) → lo ≤ i → i < hi → Contains (slice_range xs lo hi) (get_or xs i (pos 0))
  element_in i low few =
      let x = get_or xs i (pos 0) in
      let place : lo + (i - lo) ≡ i = omega arith in
      let known : get_or xs i x ≡ x = get_or_default xs i x (pos 0) (omega arith) in (
        i - lo,
        omega (arith, length-slice_range xs lo hi (omega arith) inside),
        get_or-take (hi - lo) (drop lo xs) (i - lo) x (omega arith) ∙ get_or-drop lo xs (i - lo) x ∙ ap (λ n. get_or xs n x) place ∙ known,
      )

  -- what holds of each holds of it
  of_element : (P : ℤ → Type 0) → All P (slice_range xs lo hi) → (i : ℕ) → lo ≤ i → i < hi → P (get_or xs i (pos 0))
  of_element P all i low few = All-contains P (slice_range xs lo hi) (get_or xs i (pos 0)) all (element_in i low few)

-- ---- the value of a range

least_value : (xs : List ℤ) (r : Option ℤ) (value : ℤ) → IsPlainLeast xs r → Contains xs value → All (λ x. value ≤ℤ x) xs → r ≡ Some value
least_value xs None value is there all = absurd (omega (arith, there.1, ap length (is.none.0 refl)))
least_value xs (Some least) value is there all =
    let low : value ≤ℤ least = All-contains (λ x. value ≤ℤ x) xs least all is.reached in
    let high : least ≤ℤ value = All-contains (λ x. least ≤ℤ x) xs value is.bound there in
    ap Some (omega (arith, ints))

greatest_value : (xs : List ℤ) (r : Option ℤ) (value : ℤ) → IsPlainGreatest xs r → Contains xs value → All (λ x. x ≤ℤ value) xs → r ≡ Some value
greatest_value xs None value is there all = absurd (omega (arith, there.1, ap length (is.none.0 refl)))
greatest_value xs (Some greatest) value is there all =
    let high : greatest ≤ℤ value = All-contains (λ x. x ≤ℤ value) xs greatest all is.reached in
    let low : value ≤ℤ greatest = All-contains (λ x. x ≤ℤ greatest) xs value is.bound there in
    ap Some (omega (arith, ints))

module _ (xs : List ℤ) (lo hi : ℕ) (order : lo ≤ hi) (inside : hi ≤ length xs) (sum : ℤ) where
  -- some run of a range has the sum, and no run a greater one
  best_value : (from to : ℕ) → lo ≤ from → from < to → to ≤ hi → total (slice_range xs from to) ≡ sum → ((i j : ℕ) → lo ≤ i → i < j → j ≤ hi → total (slice_range xs i j) ≤ℤ sum)
      → plain_best (slice_range xs lo hi) ≡ Some sum
  best_value from to starts some ends adds_up greatest =
      let long = length-slice_range xs lo hi order inside in
      let first : lo + (from - lo) ≡ from = omega arith in
      let last : lo + (to - lo) ≡ to = omega arith in
      let run : slice_range (slice_range xs lo hi) (from - lo) (to - lo) ≡ slice_range xs from to =
      slice_of_slice xs lo hi (from - lo) (to - lo) (omega arith) (omega arith) ∙ ap (λ n. slice_range xs n (lo + (to - lo))) first ∙ ap (slice_range xs from) last in
      same_best (slice_range xs lo hi) (plain_best (slice_range xs lo hi)) (Some sum) (plain_best-is (slice_range xs lo hi)) record {
        none = (λ e. absurd (cc), λ e. absurd (omega (arith, long, ap length e)));
        reached = (from - lo, to - lo, omega arith, omega (arith, long), ap total run ∙ adds_up);
        bound = λ i j before few.
            subst (λ ys. total ys ≤ℤ sum) (sym (slice_of_slice xs lo hi i j (omega arith) (omega (arith, long)))) (greatest (lo + i) (lo + j) (omega arith) (omega arith) (omega (arith, long)));
      }

  -- each run of a range has a smaller sum
  smaller : ((i j : ℕ) → lo ≤ i → i < j → j ≤ hi → total (slice_range xs i j) <ℤ sum) → (r : Option ℤ) → IsPlainBest (slice_range xs lo hi) r → is_same r (Some sum) ≡ false
  smaller each None is = refl
  smaller each (Some best) is =
      let long = length-slice_range xs lo hi order inside in
      let (i, j, before, few, adds_up) = is.reached in
      let less : total (slice_range (slice_range xs lo hi) i j) <ℤ sum =
      subst (λ ys. total ys <ℤ sum) (sym (slice_of_slice xs lo hi i j (omega arith) (omega (arith, long)))) (each (lo + i) (lo + j) (omega arith) (omega arith) (omega (arith, long))) in
      other best sum (λ e. below_itself sum (subst (λ t. t <ℤ sum) (adds_up ∙ e) less))

  smaller_best : ((i j : ℕ) → lo ≤ i → i < j → j ≤ hi → total (slice_range xs i j) <ℤ sum) → is_same (plain_best (slice_range xs lo hi)) (Some sum) ≡ false
  smaller_best each = smaller each (plain_best (slice_range xs lo hi)) (plain_best-is (slice_range xs lo hi))

-- ---- searches

module _ (h : Held) (lo hi : ℕ) (free : range_refused h lo hi ≡ None) where
  order : lo ≤ hi
  order = (free_range h lo hi free).0

  low : h.first ≤ lo
  low = (free_range h lo hi free).1

  inside : hi - h.first ≤ length h.elements
  inside = omega (arith, low, order, (free_range h lo hi free).2)

  -- the element of an index
  element_is : (i : ℕ) (x : ℤ) → slice_get h.elements (i - h.first) ≡ Some x → element_of h i ≡ x
  element_is i x stands = get_or_from_slice_get h.elements (i - h.first) x (pos 0) stands

  -- what holds of each element of a part of the range
  of_each : (P : ℤ → Type 0) (from to : ℕ) → lo ≤ from → to ≤ hi → All P (slice_range h.elements (from - h.first) (to - h.first)) → (i : ℕ) → from ≤ i → i < to → P (element_of h i)
  of_each P from to starts ends all i after before =
      of_element h.elements (from - h.first) (to - h.first) (omega (arith, inside)) P all (i - h.first) (omega arith) (omega (arith, low))

  -- an element within a bound
  module _ (bound : Bound) where
    pub first_found : (r : Option ℕ) → IsFirstIndexIn bound h lo hi r → r ≡ index_of (sought.First bound) h lo hi
    first_found None all = sym (first_is_none _ lo hi (λ i after before. outside bound (element_of h i) (of_each (IsOutside bound) lo hi (le_refl lo) (le_refl hi) all i after before)))
    first_found (Some i) (kept, is) =
        sym (first_is _ lo hi i (omega (arith, low, is.from)) (omega (arith, is.before))
        (ap (is_within bound) (element_is i is.within.0 is.within.1) ∙ within bound is.within.0 is.within.2)
        (λ j after before. outside bound (element_of h j) (of_each (IsOutside bound) lo i (le_refl lo) (omega (arith, is.before)) is.first j after before)))

    pub last_found : (r : Option ℕ) → IsLastIndexIn bound h lo hi r → r ≡ index_of (sought.Last bound) h lo hi
    last_found None all = sym (last_is_none _ lo hi (λ i after before. outside bound (element_of h i) (of_each (IsOutside bound) lo hi (le_refl lo) (le_refl hi) all i after before)))
    last_found (Some i) (kept, is) =
        let next : i - h.first + 1 ≡ i + 1 - h.first = omega arith in
        let behind = subst (λ n. All (IsOutside bound) (slice_range h.elements n (hi - h.first))) next is.last in
        sym (last_is _ lo hi i (omega (arith, low, is.from)) (omega (arith, is.before))
        (ap (is_within bound) (element_is i is.within.0 is.within.1) ∙ within bound is.within.0 is.within.2)
        (λ j after before. outside bound (element_of h j) (of_each (IsOutside bound) (i + 1) hi (omega (arith, low, is.from)) (le_refl hi) behind j (omega arith) before)))

  -- where a sum is reached
  pub end_found : (sum : ℤ) (r : Option ℕ) → IsEndReachedIn sum h lo hi r → r ≡ index_of (sought.Reach sum) h lo hi
  end_found sum None each =
      sym (first_is_none _ lo (hi + 1) (λ e after before. above sum (total (slice_of h lo e)) (each (e - h.first) (omega (arith, low)) (omega arith))))
  end_found sum (Some end) (kept, is) =
      sym (first_is _ lo (hi + 1) end (omega (arith, low, is.from)) (omega (arith, low, order, is.inside))
      (at_most sum (total (slice_of h lo end)) is.reaches)
      (λ e after before. above sum (total (slice_of h lo e)) (is.least (e - h.first) (omega (arith, low)) (omega (arith, low)))))

  -- the least and the greatest element
  pub least_found : (r : Option LongPlaced) → IsPlaceOfLeastIn h lo hi r → option_map (λ p. p.index) r ≡ index_of sought.Least h lo hi
  least_found None empty = sym (first_is_none _ lo hi (λ i after before. absurd (omega (arith, empty))))
  least_found (Some p) (kept, is) =
      let xs = h.elements in
      let there = subst (Contains (slice_of h lo hi)) (element_is p.index p.value is.stands) (element_in xs (lo - h.first) (hi - h.first) inside (p.index - h.first) is.from is.before) in
      let value : plain_least (slice_of h lo hi) ≡ Some p.value = least_value (slice_of h lo hi) (plain_least (slice_of h lo hi)) p.value (plain_least-is (slice_of h lo hi)) there is.least in
      sym (first_is _ lo hi p.index (omega (arith, low, is.from)) (omega (arith, is.before))
      (ap (is_same (Some (element_of h p.index))) value ∙ same (element_of h p.index) p.value (element_is p.index p.value is.stands))
      (λ j after before.
      ap (is_same (Some (element_of h j))) value
      ∙ other (element_of h j) p.value (λ e. below_itself p.value (subst (λ x. p.value <ℤ x) e (of_each (λ x. p.value <ℤ x) lo p.index (le_refl lo) (omega (arith, is.before)) is.first j after before)))))

  pub greatest_found : (r : Option LongPlaced) → IsPlaceOfGreatestIn h lo hi r → option_map (λ p. p.index) r ≡ index_of sought.Greatest h lo hi
  greatest_found None empty = sym (first_is_none _ lo hi (λ i after before. absurd (omega (arith, empty))))
  greatest_found (Some p) (kept, is) =
      let xs = h.elements in
      let there = subst (Contains (slice_of h lo hi)) (element_is p.index p.value is.stands) (element_in xs (lo - h.first) (hi - h.first) inside (p.index - h.first) is.from is.before) in
      let value : plain_greatest (slice_of h lo hi) ≡ Some p.value = greatest_value (slice_of h lo hi) (plain_greatest (slice_of h lo hi)) p.value (plain_greatest-is (slice_of h lo hi)) there is.greatest in
      sym (first_is _ lo hi p.index (omega (arith, low, is.from)) (omega (arith, is.before))
      (ap (is_same (Some (element_of h p.index))) value ∙ same (element_of h p.index) p.value (element_is p.index p.value is.stands))
      (λ j after before.
      ap (is_same (Some (element_of h j))) value
      ∙ other (element_of h j) p.value (λ e. below_itself p.value (subst (λ x. x <ℤ p.value) e (of_each (λ x. x <ℤ p.value) lo p.index (le_refl lo) (omega (arith, is.before)) is.first j after before)))))

  -- the best run, by its end
  abbrev run_to : Option ℕ → Option (ℕ × ℕ)
  run_to end = end >>= (λ to. last_where (begins_best h lo hi to) lo to >>= (λ from. Some (from, to)))

  pub run_found : (r : Option LongRun) → IsPlaceOfBestIn h lo hi r → option_map (λ r. (r.from, r.to)) r ≡ best_run h lo hi
  run_found None empty =
      let none : best_run h lo hi ≡ None = ap run_to (first_is_none (ends_best h lo hi) (lo + 1) (hi + 1) (λ e after before. absurd (omega (arith, empty)))) in
      sym none
  run_found (Some r) (kept, is) =
      let xs = h.elements in
      let a = lo - h.first in
      let b = hi - h.first in
      let from = r.from - h.first in
      let to = r.to - h.first in
      let sum = r.sum in
      let whole : plain_best (slice_of h lo hi) ≡ Some sum = best_value xs a b (omega (arith, order)) inside sum from to is.starts is.some is.ends is.adds_up is.greatest in
      let up_to : plain_best (slice_of h lo r.to) ≡ Some sum =
      best_value xs a to (omega (arith, is.starts, is.some)) (omega (arith, is.ends, inside)) sum from to is.starts is.some (omega arith) is.adds_up (λ i j low before few. is.greatest i j low before (omega (arith, is.ends))) in
      let alone : plain_best (slice_of h r.from r.to) ≡ Some sum =
      best_value xs from to (omega (arith, is.some)) (omega (arith, is.ends, inside)) sum from to (omega arith) is.some (omega arith) is.adds_up (λ i j low before few. is.greatest i j (omega (arith, is.starts)) before (omega (arith, is.ends))) in
      let ends : first_where (ends_best h lo hi) (lo + 1) (hi + 1) ≡ Some r.to = first_is (ends_best h lo hi) (lo + 1) (hi + 1) r.to (omega (arith, low, is.starts, is.some)) (omega (arith, low, order, is.ends))
      (ap₂ is_same up_to whole ∙ same sum sum refl)
      (λ e after before.
      ap (is_same (plain_best (slice_of h lo e))) whole
      ∙ smaller_best xs a (e - h.first) (omega (arith, low)) (omega (arith, is.ends, inside)) sum (λ i j start some few. is.least_end i j start some (omega (arith, low)))) in
      let begins : last_where (begins_best h lo hi r.to) lo r.to ≡ Some r.from = last_is (begins_best h lo hi r.to) lo r.to r.from (omega (arith, low, is.starts)) (omega (arith, is.some))
      (ap₂ is_same alone whole ∙ same sum sum refl)
      (λ s behind before.
      ap (is_same (plain_best (slice_of h s r.to))) whole
      ∙ smaller_best xs (s - h.first) to (omega arith) (omega (arith, is.ends, inside)) sum (λ i j low before few.
      elim (cases_lt j to) [
        | inl sooner ↦ is.least_end i j (omega (arith, is.starts)) before sooner
        | inr last ↦ let here : to ≡ j = omega arith in subst (λ n. total (slice_range xs i n) <ℤ sum) here (is.greatest_start i (omega arith) (omega arith))
      ])) in
      let first : best_run h lo hi ≡ run_to (Some r.to) = ap run_to ends in
      let second : run_to (Some r.to) ≡ Some (r.from, r.to) = ap (λ from. from >>= (λ from. Some (from, r.to))) begins in
      let found : best_run h lo hi ≡ Some (r.from, r.to) = first ∙ second in
      sym found

-- ---- searches that make a tree first

module _ {T U : Type 0} (is_answer : Held → ℕ → ℕ → T → Type 0) (plain : Held → ℕ → ℕ → U) (shown : T → U)
    (each : (h : Held) (lo hi : ℕ) → range_refused h lo hi ≡ None → (answer : T) → is_answer h lo hi answer → shown answer ≡ plain h lo hi) (old new : SeriesState) (kind : Kind) (lo hi : ℕ) where
  -- nothing rejects one
  sought_granted : (answer : T) → Searches is_answer old kind lo hi (Ok answer) new → Seeks plain old lo hi (Ok (shown answer)) new
  sought_granted answer s = (s.0, each old.held lo hi s.0 answer s.1, ap without_trees s.2)

  -- or it is rejected
  sought_refused : (refusal : LongRefusal) → Searches is_answer old kind lo hi (Err refusal) new → Seeks plain old lo hi (Err refusal) new
  sought_refused refusal (same, inl why) = (inl why, ap without_trees same)
  sought_refused refusal (same, inr (free, is, missing)) = (inr (free, is), ap without_trees same)

-- one whose answer is an index
module _ (is_answer : Held → ℕ → ℕ → Option ℕ → Type 0) (plain : Held → ℕ → ℕ → Option ℕ)
    (each : (h : Held) (lo hi : ℕ) → range_refused h lo hi ≡ None → (r : Option ℕ) → is_answer h lo hi r → r ≡ plain h lo hi) (old new : SeriesState) (kind : Kind) (lo hi : ℕ) where
  index_sought : (r : Result (Option ℕ) LongRefusal) → Searches is_answer old kind lo hi r new → Seeks plain old lo hi r new
  index_sought (Ok answer) s = sought_granted is_answer plain (λ r. r) each old new kind lo hi answer s
  index_sought (Err refusal) s = sought_refused is_answer plain (λ r. r) each old new kind lo hi refusal s

module _ (old new : SeriesState) (lo hi : ℕ) where
  pub first_sought : (bound : Bound) (r : Result (Option ℕ) LongRefusal) → Searches (IsFirstIndexIn bound) old (kind_within bound) lo hi r new → Seeks (index_of (sought.First bound)) old lo hi r new
  first_sought bound r s = index_sought (IsFirstIndexIn bound) (index_of (sought.First bound)) (λ h lo hi free. first_found h lo hi free bound) old new (kind_within bound) lo hi r s

  pub last_sought : (bound : Bound) (r : Result (Option ℕ) LongRefusal) → Searches (IsLastIndexIn bound) old (kind_within bound) lo hi r new → Seeks (index_of (sought.Last bound)) old lo hi r new
  last_sought bound r s = index_sought (IsLastIndexIn bound) (index_of (sought.Last bound)) (λ h lo hi free. last_found h lo hi free bound) old new (kind_within bound) lo hi r s

  pub end_sought : (sum : ℤ) (r : Result (Option ℕ) LongRefusal) → Searches (IsEndReachedIn sum) old kind.Best lo hi r new → Seeks (index_of (sought.Reach sum)) old lo hi r new
  end_sought sum r s = index_sought (IsEndReachedIn sum) (index_of (sought.Reach sum)) (λ h lo hi free. end_found h lo hi free sum) old new kind.Best lo hi r s

  pub least_sought : (answer : Option LongPlaced) → Searches IsPlaceOfLeastIn old kind.Least lo hi (Ok answer) new → Seeks (index_of sought.Least) old lo hi (Ok (option_map (λ p. p.index) answer)) new
  least_sought answer s = sought_granted IsPlaceOfLeastIn (index_of sought.Least) (option_map (λ p. p.index)) least_found old new kind.Least lo hi answer s

  pub greatest_sought : (answer : Option LongPlaced) → Searches IsPlaceOfGreatestIn old kind.Greatest lo hi (Ok answer) new → Seeks (index_of sought.Greatest) old lo hi (Ok (option_map (λ p. p.index) answer)) new
  greatest_sought answer s = sought_granted IsPlaceOfGreatestIn (index_of sought.Greatest) (option_map (λ p. p.index)) greatest_found old new kind.Greatest lo hi answer s

  pub run_sought : (answer : Option LongRun) → Searches IsPlaceOfBestIn old kind.Best lo hi (Ok answer) new → Seeks best_run old lo hi (Ok (option_map (λ r. (r.from, r.to)) answer)) new
  run_sought answer s = sought_granted IsPlaceOfBestIn best_run (option_map (λ r. (r.from, r.to))) run_found old new kind.Best lo hi answer s
