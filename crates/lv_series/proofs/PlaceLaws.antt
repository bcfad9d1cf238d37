-- What a search finds among the elements in memory, said of the indices of a series, and what that says of the elements of a range.
use Rattle.std.proofs.Common.{◌≡◌, ℕ, ℤ, pos, ◌+◌, ◌-◌, ◌*◌, ◌≤◌, ◌<ℤ◌, Bool, true, false, Option, Some, None, IfSome, List, [], length, drop, slice_range, refl, sym, ap, ◌∙◌, subst, arith}
use Rattle.lv_bodies.specs.Plain.{IsPlainBest}
use Rattle.lv_bodies.specs.declared.kinds.Kind.TheVariants as kind
use Rattle.lv_tree.specs.KindSummaries.{summary_by}
use Rattle.lv_tree.specs.PlaceLaws.{best_is_met, best_stands, empty_range, end_found, first_found, greatest_is_met, greatest_stands, last_found, least_is_met, least_stands, start_found}
use Rattle.lv_tree.specs.Searches.{FindsEnd, FindsStart}
use Rattle.lv_tree.specs.Sought.{greatest_in, least_in, sought_within}
use Rattle.lv_tree.specs.SoughtLaws.{greatest_told, least_told}
use Rattle.lv_tree.specs.Where.{IsFirstGreatest, IsFirstIndex, IsFirstLeast}
use Rattle.lv_tree.specs.declared.kind_summaries.KindSummary.{KindSummary}
use Rattle.lv_tree.specs.declared.places.Bound.{Bound}
use Rattle.lv_tree.specs.declared.sought.Sought.{Sought}
use Rattle.lv_tree.specs.declared.sought.Sought.TheVariants.{AtMost, AtLeast, Run, Beginning, Ending}
use Rattle.lv_series.specs.Blocks.{IsWindow}
use Rattle.lv_series.specs.Places.{Finds, FindsIn, IsEndReachedIn, IsFirstIndexIn, IsLastIndexIn, IsPlaceOfBestIn, IsPlaceOfGreatestIn, IsPlaceOfLeastIn, IsStartReachedIn, end_of}
use Rattle.lv_series.specs.declared.places.LongPlaced.{LongPlaced}
use Rattle.lv_series.specs.Series.{Held, held_in, range_refused, slice_of}
use Rattle.lv_series.proofs.FreeLaws.{free_range}
use Rattle.lv_series.proofs.SearchLaws.{found_from, found_there, none_there, slice_of_rest}

-- from the places in memory to the indices
module _ (sought : Sought) (base first : ℕ) (xs : List ℤ) (window : IsWindow base first xs) (lo hi : ℕ) (low : first ≤ lo) (order : lo ≤ hi) (back : Bool) where
  abbrev gone : ℕ
  gone = first - 8 * base

  same_slices : (i j k l : ℕ) → gone ≤ i → gone ≤ j → k + gone ≡ i + 0 → l + gone ≡ j + 0 → slice_range xs i j ≡ slice_range (drop gone xs) k l
  same_slices i j k l _ _ at end = sym (slice_of_rest gone xs k l i j (omega (arith, at)) (omega (arith, end)))

  pub found_in : (place : ℕ) → Finds back sought xs (lo - 8 * base) (hi - 8 * base) (Some place) → FindsIn back sought (held_in base first xs) lo hi (Some (8 * base + place))
  found_in place f =
      let from = found_from sought xs (lo - 8 * base) (hi - 8 * base) place back f in (
        omega (arith, from, low, window.low),
        found_there sought xs (drop gone xs) gone 0 same_slices (lo - 8 * base) (hi - 8 * base) (lo - first) (hi - first) (omega (arith, low, window.low)) (omega (arith, order)) (omega (arith, low, window.low)) (omega (arith, low, order, window.low))
            back place (8 * base + place - first) (omega (arith, from, low, window.low)) f,
      )

  pub none_found_in : Finds back sought xs (lo - 8 * base) (hi - 8 * base) None → FindsIn back sought (held_in base first xs) lo hi None
  none_found_in f =
      none_there sought xs (drop gone xs) gone 0 same_slices (lo - 8 * base) (hi - 8 * base) (lo - first) (hi - first) (omega (arith, low, window.low)) (omega (arith, order)) (omega (arith, low, window.low)) (omega (arith, low, order, window.low)) back f

-- what is found says of the elements that are kept
module _ (h : Held) (lo hi : ℕ) (free : range_refused h lo hi ≡ None) where
  -- the range is one of theirs
  inside : hi - h.first ≤ length h.elements
  inside = omega (arith, (free_range h lo hi free).1, (free_range h lo hi free).2)

  order : lo - h.first ≤ hi - h.first
  order = omega (arith, (free_range h lo hi free).0)

  low : h.first ≤ lo
  low = (free_range h lo hi free).1

  -- the first element within a bound, and the last one
  module _ (bound : Bound) (sought : Sought) (is : sought ≡ sought_within bound) where
    pub first_in : (end : ℕ) → FindsIn false sought h lo hi (Some end) → IsFirstIndexIn bound h lo hi (Some (end - 1))
    first_in end finds =
        let same : end - h.first - 1 ≡ end - 1 - h.first = omega arith in
        let found = subst (λ s. FindsEnd s h.elements (lo - h.first) (hi - h.first) (Some (end - h.first))) is finds.1 in (
          omega (arith, low, finds.1.after),
          subst (λ n. IsFirstIndex bound h.elements (lo - h.first) (hi - h.first) (Some n)) same (first_found bound h.elements (lo - h.first) (hi - h.first) inside (end - h.first) found),
        )

    pub last_in : (r : Option ℕ) → FindsIn true sought h lo hi r → IsLastIndexIn bound h lo hi r
    last_in None finds = last_found bound h.elements (lo - h.first) (hi - h.first) inside None (subst (λ s. FindsStart s h.elements (lo - h.first) (hi - h.first) None) is finds)
    last_in (Some start) finds = (finds.0, last_found bound h.elements (lo - h.first) (hi - h.first) inside (Some (start - h.first)) (subst (λ s. FindsStart s h.elements (lo - h.first) (hi - h.first) (Some (start - h.first))) is finds.1))

  -- the end at which a sum is reached, and the start
  module _ (sum : ℤ) where
    pub end_reached_in : pos 0 <ℤ sum → (r : Option ℕ) → FindsIn false (Beginning sum) h lo hi r → IsEndReachedIn sum h lo hi r
    end_reached_in some None finds = end_found h.elements (lo - h.first) (hi - h.first) order inside sum some None finds
    end_reached_in some (Some end) finds = (finds.0, end_found h.elements (lo - h.first) (hi - h.first) order inside sum some (Some (end - h.first)) finds.1)

    pub start_reached_in : pos 0 <ℤ sum → (r : Option ℕ) → FindsIn true (Ending sum) h lo hi r → IsStartReachedIn sum h lo hi r
    start_reached_in some None finds = start_found h.elements (lo - h.first) (hi - h.first) order inside sum some None finds
    start_reached_in some (Some start) finds = (finds.0, start_found h.elements (lo - h.first) (hi - h.first) order inside sum some (Some (start - h.first)) finds.1)

  -- a range without elements
  pub none_in : slice_of h lo hi ≡ [] → lo ≡ hi
  none_in none = omega (arith, low, (free_range h lo hi free).0, empty_range h.elements (lo - h.first) (hi - h.first) order inside none)

  -- the least element and the greatest, as a summary has them
  module _ (table : List (List ℕ)) (s : KindSummary) where
    module _ (is : s ≡ summary_by table kind.Least (slice_of h lo hi)) where
      pub no_least : None ≡ least_in s → lo ≡ hi
      no_least told = none_in ((least_told table (slice_of h lo hi) s None told is).none.0 refl)

      pub least_placed : (least value : ℤ) → Some least ≡ least_in s → value ≡ least → (r : Option LongPlaced) → FindsIn false (AtMost value) h lo hi (end_of r) → IfSome r (λ p. p.value ≡ value) → IsPlaceOfLeastIn h lo hi r
      least_placed least value told same None finds of =
          absurd (least_is_met h.elements (lo - h.first) (hi - h.first) order inside value (least_told table (slice_of h lo hi) s (Some value) (ap Some same ∙ told) is) finds)
      least_placed least value told same (Some p) finds of =
          let plain = least_told table (slice_of h lo hi) s (Some value) (ap Some same ∙ told) is in
          let stands = least_stands h.elements (lo - h.first) (hi - h.first) order inside value (p.index + 1 - h.first) plain finds.1 in
          let place : p.index + 1 - h.first - 1 ≡ p.index - h.first = omega arith in
          (omega (arith, low, finds.1.after), subst (λ v. IsFirstLeast h.elements (lo - h.first) (hi - h.first) (p.index - h.first) v) (sym of) (subst (λ n. IsFirstLeast h.elements (lo - h.first) (hi - h.first) n value) place stands))

    module _ (is : s ≡ summary_by table kind.Greatest (slice_of h lo hi)) where
      pub no_greatest : None ≡ greatest_in s → lo ≡ hi
      no_greatest told = none_in ((greatest_told table (slice_of h lo hi) s None told is).none.0 refl)

      pub greatest_placed : (greatest value : ℤ) → Some greatest ≡ greatest_in s → value ≡ greatest → (r : Option LongPlaced) → FindsIn false (AtLeast value) h lo hi (end_of r) → IfSome r (λ p. p.value ≡ value) → IsPlaceOfGreatestIn h lo hi r
      greatest_placed greatest value told same None finds of =
          absurd (greatest_is_met h.elements (lo - h.first) (hi - h.first) order inside value (greatest_told table (slice_of h lo hi) s (Some value) (ap Some same ∙ told) is) finds)
      greatest_placed greatest value told same (Some p) finds of =
          let plain = greatest_told table (slice_of h lo hi) s (Some value) (ap Some same ∙ told) is in
          let stands = greatest_stands h.elements (lo - h.first) (hi - h.first) order inside value (p.index + 1 - h.first) plain finds.1 in
          let place : p.index + 1 - h.first - 1 ≡ p.index - h.first = omega arith in
          (omega (arith, low, finds.1.after), subst (λ v. IsFirstGreatest h.elements (lo - h.first) (hi - h.first) (p.index - h.first) v) (sym of) (subst (λ n. IsFirstGreatest h.elements (lo - h.first) (hi - h.first) n value) place stands))

  -- the best run, whose value is known
  module _ (value : ℤ) where
    module _ (is : IsPlainBest (slice_of h lo hi) (Some value)) where
      pub some_best : FindsIn false (Run value) h lo hi None → ⊥
      some_best finds = best_is_met h.elements (lo - h.first) (hi - h.first) order inside value is finds

      pub best_in_range : (to : ℕ) → FindsIn false (Run value) h lo hi (Some to) → (from : ℕ) → FindsIn true (Run value) h lo to (Some from) → IsPlaceOfBestIn h lo hi (Some (record { from = from; to = to; sum = value }))
      best_in_range to f from g = (g.0, best_stands h.elements (lo - h.first) (hi - h.first) inside value (to - h.first) (from - h.first) f.1 g.1 is)
