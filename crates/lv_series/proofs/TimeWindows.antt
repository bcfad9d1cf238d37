-- The values of a window of time are those side by side, between two places.
use Rattle.std.proofs.Common.{◌≡◌, ℕ, zero, suc, ℤ, pos, ◌+◌, ◌-◌, ◌<◌, ◌≤◌, ◌+ℤ◌, ◌-ℤ◌, Bool, true, false, All, nat_eq, List, [], ◌∷◌, length, take, drop, slice_index_or, slice_range, int_lt, refl, sym, ap, subst, ◌∙◌, arith, length-drop, length-take}
use Rattle.std.proofs.lemmas.Bool.Decides.{nat_tests}
use Rattle.std.proofs.lemmas.Int.{by_lt_z, ints}
use Rattle.std.proofs.lemmas.List.{drop-drop, drop-take, get_or-drop, get_or-take}
use Rattle.std.proofs.lemmas.List.Elements.{All-drop, All-head, All-tail, All-take}
use Rattle.std.specs.Option.{unwrap_or}
use Rattle.lv_series.specs.Plain.{size_of}
use Rattle.lv_series.specs.Samples.{IsWindowOf, SamplesState, count_before, is_among_last, is_between, newest_in, newest_of, values_where}
use Rattle.lv_series.proofs.TimeLaws.{time_at}

module _ (counts : ℤ → Bool) where
  -- of no values there are none; if no time counts there are none
  of_none : (ts : List ℤ) → values_where counts ts [] ≡ []
  of_none [] = refl
  of_none (t ∷ ts) = refl

  none_counts : (ts xs : List ℤ) → All (λ t. counts t ≡ false) ts → values_where counts ts xs ≡ []
  none_counts [] xs none = refl
  none_counts (t ∷ ts) [] none = refl
  none_counts (t ∷ ts) (x ∷ xs) none =
      let not : counts t ≡ false = All-head (λ t. counts t ≡ false) t ts none in
      rw not (none_counts ts xs (All-tail (λ t. counts t ≡ false) t ts none))

  -- if the first so many times count and no others do, they are the first so many values
  first_count : (n : ℕ) (ts xs : List ℤ) → length ts ≡ length xs → All (λ t. counts t ≡ true) (take n ts) → All (λ t. counts t ≡ false) (drop n ts) → values_where counts ts xs ≡ take n xs
  first_count zero ts xs same all none = none_counts ts xs none
  first_count (suc n) [] [] same all none = refl
  first_count (suc n) [] (x ∷ xs) same all none = absurd (omega arith)
  first_count (suc n) (t ∷ ts) [] same all none = refl
  first_count (suc n) (t ∷ ts) (x ∷ xs) same all none =
      let does : counts t ≡ true = All-head (λ t. counts t ≡ true) t (take n ts) all in
      rw does (ap (λ ys. x ∷ ys) (first_count n ts xs (omega arith) (All-tail (λ t. counts t ≡ true) t (take n ts) all) none))

  -- times in front that do not count
  without_front : (n : ℕ) (ts xs : List ℤ) → All (λ t. counts t ≡ false) (take n ts) → values_where counts ts xs ≡ values_where counts (drop n ts) (drop n xs)
  without_front zero ts xs none = refl
  without_front (suc n) [] xs none = refl
  without_front (suc n) (t ∷ ts) [] none = sym (of_none (drop n ts))
  without_front (suc n) (t ∷ ts) (x ∷ xs) none =
      let not : counts t ≡ false = All-head (λ t. counts t ≡ false) t (take n ts) none in
      rw not (without_front n ts xs (All-tail (λ t. counts t ≡ false) t (take n ts) none))

  -- so if exactly those between two places count, they are a slice
  pub slice_is : (lo hi : ℕ) (ts xs : List ℤ) → lo ≤ hi → length ts ≡ length xs → All (λ t. counts t ≡ false) (take lo ts) → All (λ t. counts t ≡ true) (slice_range ts lo hi) → All (λ t. counts t ≡ false) (drop hi ts) → slice_range xs lo hi ≡ values_where counts ts xs
  slice_is lo hi ts xs order same before inside behind =
      let place : lo + (hi - lo) ≡ hi = omega arith in
      let rest : drop (hi - lo) (drop lo ts) ≡ drop hi ts = drop-drop (hi - lo) lo ts ∙ ap (λ n. drop n ts) place in
      sym (without_front lo ts xs before ∙ first_count (hi - lo) (drop lo ts) (drop lo xs) (omega (arith, length-drop lo ts, length-drop lo xs)) inside (subst (λ us. All (λ t. counts t ≡ false) us) (sym rest) behind))

-- how many times are before another
none_before : (time : ℤ) (ts : List ℤ) → All (λ t. int_lt t time ≡ false) ts → count_before time ts ≡ 0
none_before time [] none = refl
none_before time (t ∷ ts) none =
    let not : int_lt t time ≡ false = All-head (λ t. int_lt t time ≡ false) t ts none in
    rw not (omega (arith, none_before time ts (All-tail (λ t. int_lt t time ≡ false) t ts none)))

pub counted_before : (time : ℤ) (n : ℕ) (ts : List ℤ) → n ≤ length ts → All (λ t. int_lt t time ≡ true) (take n ts) → All (λ t. int_lt t time ≡ false) (drop n ts) → count_before time ts ≡ n
counted_before time zero ts short before behind = none_before time ts behind
counted_before time (suc n) [] short before behind = absurd (omega arith)
counted_before time (suc n) (t ∷ ts) short before behind =
    let is : int_lt t time ≡ true = All-head (λ t. int_lt t time ≡ true) t (take n ts) before in
    rw is (omega (arith, counted_before time n ts (omega arith) (All-tail (λ t. int_lt t time ≡ true) t (take n ts) before) behind))

-- tests of one time
too_early : (since until t : ℤ) → int_lt t since ≡ true → is_between since until t ≡ false
too_early since until t e = grind (arith, ints)

too_late : (since until t : ℤ) → int_lt t until ≡ false → is_between since until t ≡ false
too_late since until t e = grind (arith, ints)

in_time : (since until t : ℤ) → int_lt t since ≡ false → int_lt t until ≡ true → is_between since until t ≡ true
in_time since until t e f = grind (arith, ints)

-- a time that is before one bound is before a later bound
not_both : (since until t : ℤ) → int_lt until since ≡ false → int_lt t since ≡ true → int_lt t until ≡ false → ⊥
not_both since until t order e f = grind (arith, ints)

long_ago : (newest : ℤ) (span : ℕ) (t : ℤ) → int_lt t ((newest -ℤ pos span) +ℤ pos 1) ≡ true → is_among_last newest span t ≡ false
long_ago newest span t e = grind (arith, ints)

recent : (newest : ℤ) (span : ℕ) (t : ℤ) → int_lt t ((newest -ℤ pos span) +ℤ pos 1) ≡ false → is_among_last newest span t ≡ true
recent newest span t e = grind (arith, ints)

-- a place, in indices, up to which the times are before a time, and from which on they are not
pub record IsPlaceOf (s : SamplesState) (time : ℤ) (place : ℕ) : Type 0 where
  pub from : s.series.held.first ≤ place
  pub to : place ≤ size_of s.series.held
  pub before : All (λ t. int_lt t time ≡ true) (take (place - s.series.held.first) s.times)
  pub behind : All (λ t. int_lt t time ≡ false) (drop (place - s.series.held.first) s.times)

-- the time of the last sample, or else 0
pub newest_or : (ts : List ℤ) → unwrap_or (newest_in ts) (pos 0) ≡ newest_of ts
newest_or [] = refl
newest_or (t ∷ ts) =
    let some : nat_eq (length (t ∷ ts)) 0 ≡ false = grind (arith, nat_tests) in
    rw some refl

module _ (s : SamplesState) (same : length s.times ≡ length s.series.held.elements) where
  -- a later bound has no earlier place
  not_back : (since until : ℤ) (lo hi : ℕ) → int_lt until since ≡ false → IsPlaceOf s since lo → IsPlaceOf s until hi → hi < lo → ⊥
  not_back since until lo hi order first last wrong =
      let l = lo - s.series.held.first in
      let h = hi - s.series.held.first in
      let early : h < l = omega (arith, last.from) in
      let short : h < length s.times = omega (arith, first.to) in
      let is : int_lt (time_at s.times h) since ≡ true =
      ap (λ t. int_lt t since) (sym (get_or-take l s.times h (pos 0) early)) ∙ first.before h (pos 0) (omega (arith, length-take l s.times)) in
      let at : slice_index_or (drop h s.times) 0 (pos 0) ≡ time_at s.times h = get_or-drop h s.times 0 (pos 0) ∙ ap (λ n. time_at s.times n) (omega arith) in
      let not : int_lt (time_at s.times h) until ≡ false =
      ap (λ t. int_lt t until) (sym at) ∙ last.behind 0 (pos 0) (omega (arith, length-drop h s.times)) in
      not_both since until (time_at s.times h) order is not

  in_order : (since until : ℤ) (lo hi : ℕ) → int_lt until since ≡ false → IsPlaceOf s since lo → IsPlaceOf s until hi → lo ≤ hi
  in_order since until lo hi order first last =
      by_lt_z (pos hi) (pos lo) (λ wrong. absurd (not_back since until lo hi order first last (omega (arith, ints)))) (λ right. omega (arith, ints))

  pub window_between : (since until : ℤ) (lo hi : ℕ) → int_lt until since ≡ false → IsPlaceOf s since lo → IsPlaceOf s until hi → IsWindowOf s (is_between since until) lo hi
  window_between since until lo hi order first last =
      let rising = in_order since until lo hi order first last in
      let l = lo - s.series.held.first in
      let h = hi - s.series.held.first in
      let place : l + (h - l) ≡ h = omega (arith, first.from, last.from) in
      let one : drop l (take h s.times) ≡ slice_range s.times l h = ap (λ n. drop l (take n s.times)) (sym place) ∙ drop-take l (h - l) s.times in
      let from : All (λ t. int_lt t since ≡ false) (slice_range s.times l h) = All-take (λ t. int_lt t since ≡ false) (h - l) (drop l s.times) first.behind in
      let to : All (λ t. int_lt t until ≡ true) (slice_range s.times l h) = subst (λ us. All (λ t. int_lt t until ≡ true) us) one (All-drop (λ t. int_lt t until ≡ true) l (take h s.times) last.before) in
      let before : All (λ t. is_between since until t ≡ false) (take l s.times) = λ k d in_front. too_early since until (slice_index_or (take l s.times) k d) (first.before k d in_front) in
      let inside : All (λ t. is_between since until t ≡ true) (slice_range s.times l h) = λ k d in_slice. in_time since until (slice_index_or (slice_range s.times l h) k d) (from k d in_slice) (to k d in_slice) in
      let behind : All (λ t. is_between since until t ≡ false) (drop h s.times) = λ k d after. too_late since until (slice_index_or (drop h s.times) k d) (last.behind k d after) in
      record {
        from = first.from;
        order = rising;
        to = last.to;
        values = slice_is (is_between since until) l h s.times s.series.held.elements (omega arith) same before inside behind;
        before = before;
        inside = inside;
        behind = behind;
      }

  pub window_of_last : (newest : ℤ) (span : ℕ) (lo hi : ℕ) → IsPlaceOf s ((newest -ℤ pos span) +ℤ pos 1) lo → hi ≡ size_of s.series.held → IsWindowOf s (is_among_last newest span) lo hi
  window_of_last newest span lo hi first last =
      let l = lo - s.series.held.first in
      let h = hi - s.series.held.first in
      let all : h ≡ length s.times = omega arith in
      let from : All (λ t. int_lt t ((newest -ℤ pos span) +ℤ pos 1) ≡ false) (slice_range s.times l h) = All-take (λ t. int_lt t ((newest -ℤ pos span) +ℤ pos 1) ≡ false) (h - l) (drop l s.times) first.behind in
      let before : All (λ t. is_among_last newest span t ≡ false) (take l s.times) = λ k d in_front. long_ago newest span (slice_index_or (take l s.times) k d) (first.before k d in_front) in
      let inside : All (λ t. is_among_last newest span t ≡ true) (slice_range s.times l h) = λ k d in_slice. recent newest span (slice_index_or (slice_range s.times l h) k d) (from k d in_slice) in
      let behind : All (λ t. is_among_last newest span t ≡ false) (drop h s.times) = λ k d after. absurd (omega (arith, length-drop h s.times)) in
      record {
        from = first.from;
        order = omega (arith, first.to);
        to = omega arith;
        values = slice_is (is_among_last newest span) l h s.times s.series.held.elements (omega (arith, first.to)) same before inside behind;
        before = before;
        inside = inside;
        behind = behind;
      }
