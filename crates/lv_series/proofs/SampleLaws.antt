-- How each edit changes samples in memory: a series of their values, and an array of times; so many times in front are not kept.
use Rattle.std.proofs.Common.{◌≡◌, ℕ, ℤ, pos, ◌+◌, ◌-◌, ◌<◌, ◌≤◌, Bool, true, false, not, ◌&&◌, IsTrue, Option, Some, None, if◌then◌else◌, inl, inr, List, [], ◌∷◌, ◌++◌, length, take, drop, nat_eq, int_le, int_lt, refl, sym, ap, subst, ◌∙◌, arith, length-append, length-drop}
use Rattle.std.proofs.Math.ListN.{get_or-append}
use Rattle.std.proofs.Math.Seq.{get_or-append_seam}
use Rattle.std.proofs.lemmas.Bool.Decides.{nat_tests}
use Rattle.std.proofs.lemmas.Int.{by_lt_z, ints}
use Rattle.std.proofs.lemmas.List.{drop-append-le, drop-drop, drop-take, get_or-drop, take-append-le, take_all}
use Rattle.lv_series.specs.declared.edits.LongEdit.TheVariants as edit
use Rattle.lv_series.specs.declared.receipts.LongReceipt.{LongReceipt}
use Rattle.lv_series.specs.declared.refusals.LongRefusal.{LongRefusal}
use Rattle.lv_series.specs.declared.sample_edits.SampleEdit.TheVariants.{Push, Pop, Truncate}
use Rattle.lv_series.specs.declared.sample_edits.SampleRefusal.{SampleRefusal}
use Rattle.lv_series.specs.declared.sample_edits.SampleRefusal.TheVariants.{Earlier, Refused}
use Rattle.lv_series.specs.declared.refusals.LongRefusal.TheVariants.{NoMemory}
use Rattle.lv_series.specs.Samples.{AcceptsSample, IsRising, RefusesSample, SamplesState, earlier_refusal, newest_of, refused_or, sample_refused}
use Rattle.lv_series.specs.Series.{Accepts, Refuses, SeriesState, refused}
use Rattle.lv_series.proofs.TimeLaws.{time_at}

-- a series with times; samples in memory
abbrev samples_with : SeriesState → List ℤ → SamplesState
samples_with s times = record { series = s; times = times }

abbrev pub samples_of : SeriesState → List ℤ → ℕ → SamplesState
samples_of s items gone = record { series = s; times = drop gone items }

-- samples of an equal series and equal times are equal
same_samples : (s t : SeriesState) (xs ys : List ℤ) → s ≡ t → xs ≡ ys → samples_with s xs ≡ samples_with t ys
same_samples s t xs ys series times = ap (λ u. samples_with u xs) series ∙ ap (samples_with t) times

-- a pop that isn't refused finds an element
some_left : (s : SeriesState) → refused s edit.Pop ≡ None → 0 < length s.held.elements
some_left s free = grind (arith, nat_tests)

module _ (s new : SeriesState) (items : List ℤ) (gone : ℕ) (receipt : LongReceipt) where
  pub popped : (left : List ℤ) → gone + length s.held.elements ≡ length items → left ≡ take (length items - 1) items → Accepts s edit.Pop receipt new → AcceptsSample (samples_of s items gone) Pop receipt (samples_of new left gone)
  popped left paired is a =
      let some : 0 < length s.held.elements = some_left s a.free in
      let count : length items - 1 ≡ gone + (length (drop gone items) - 1) = omega (arith, length-drop gone items) in
      let times : drop gone left ≡ take (length (drop gone items) - 1) (drop gone items) =
      ap (drop gone) is ∙ ap (λ n. drop gone (take n items)) count ∙ drop-take gone (length (drop gone items) - 1) items in
      record {
        free = ap (λ o. refused_or o None) a.free;
        receipt_is = a.receipt_is;
        after = same_samples new _ (drop gone left) _ a.after times;
      }

  pub truncated : (left : List ℤ) (n : ℕ) → left ≡ take (gone + (n - new.held.first)) items → Accepts s (edit.Truncate n) receipt new → AcceptsSample (samples_of s items gone) (Truncate n) receipt (samples_of new left gone)
  truncated left n is a =
      let first : new.held.first ≡ s.held.first = ap (λ (t : SeriesState). t.held.first) a.after in
      let times : drop gone left ≡ take (n - s.held.first) (drop gone items) =
      ap (drop gone) is ∙ ap (λ f. drop gone (take (gone + (n - f)) items)) first ∙ drop-take gone (n - s.held.first) items in
      record {
        free = ap (λ o. refused_or o None) a.free;
        receipt_is = a.receipt_is;
        after = same_samples new _ (drop gone left) _ a.after times;
      }

-- a test that refuses nothing
if_none : (b : Bool) (r : SampleRefusal) → (if b then Some r else None) ≡ None → b ≡ false
if_none true r e = cc
if_none false r e = refl

-- of two refusals, neither
neither : (known : Option LongRefusal) (other : Option SampleRefusal) → refused_or known other ≡ None → (known ≡ None) × (other ≡ None)
neither None other e = (refl, e)
neither (Some r) other e = cc

-- a time that isn't refused is not before the last one
not_earlier : (ts : List ℤ) (t x : ℤ) → earlier_refusal ts (Push t x) ≡ None → 0 < length ts → int_lt t (newest_of ts) ≡ false
not_earlier ts t x free some =
    let test : not (nat_eq (length ts) 0) && int_lt t (newest_of ts) ≡ false = if_none (not (nat_eq (length ts) 0) && int_lt t (newest_of ts)) (Earlier (newest_of ts)) free in
    let is : nat_eq (length ts) 0 ≡ false = grind (arith, nat_tests) in
    rw is at test

up_to_itself : (t : ℤ) → IsTrue (int_le t t)
up_to_itself t = grind (arith, ints)

up_to_later : (a b t : ℤ) → IsTrue (int_le a b) → int_lt t b ≡ false → IsTrue (int_le a t)
up_to_later a b t le not = grind (arith, ints)

-- with such a time at the end, times do not fall; nor do they without those in front
pub rising_pushed : (ts : List ℤ) (t x : ℤ) → IsRising ts → earlier_refusal ts (Push t x) ≡ None → IsRising (ts ++ t ∷ [])
rising_pushed ts t x rising free =
    let before : (k : ℕ) → k < length ts → time_at (ts ++ t ∷ []) k ≡ time_at ts k = λ k inside. get_or-append ts (t ∷ []) (pos 0) k inside in
    let last : (k : ℕ) → k ≡ length ts → time_at (ts ++ t ∷ []) k ≡ t = λ k end. ap (time_at (ts ++ t ∷ [])) end ∙ get_or-append_seam ts t [] (pos 0) in
    let at_end : (i j : ℕ) → i ≤ j → j ≡ length ts → IsTrue (int_le (time_at (ts ++ t ∷ []) i) (time_at (ts ++ t ∷ []) j)) = λ i j order end.
    by_lt_z (pos i) (pos j)
    (λ below.
    let inside : i < length ts = omega (arith, ints) in
    let e : IsTrue (int_le (time_at ts i) t) = up_to_later (time_at ts i) (newest_of ts) t (rising.rises i (length ts - 1) (omega arith) (omega arith)) (not_earlier ts t x free (omega arith)) in
    rw (before i inside, last j end) e)
    (λ above.
    let same : i ≡ length ts = omega (arith, ints) in
    rw (last i same, last j end) (up_to_itself t))
    in
    record {
      rises = λ i j order inside.
          by_lt_z (pos j) (pos (length ts))
          (λ below.
          let short : j < length ts = omega (arith, ints) in
          rw (before i (omega arith), before j short) (rising.rises i j order short))
          (λ above. at_end i j order (omega (arith, ints, length-append ts (t ∷ []))));
    }

rising_left : (ts : List ℤ) (n : ℕ) → IsRising ts → IsRising (drop n ts)
rising_left ts n rising = record {
  rises = λ i j order inside.
      let long : n + j < length ts = omega (arith, length-drop n ts) in
      rw (get_or-drop n ts i (pos 0), get_or-drop n ts j (pos 0)) (rising.rises (n + i) (n + j) (omega arith) long);
}

module _ (s new : SeriesState) (items : List ℤ) (gone : ℕ) (receipt : LongReceipt) (paired : gone + length s.held.elements ≡ length items) where
  -- a sample at the end
  module _ (t x : ℤ) (left : List ℤ) (is : left ≡ items ++ t ∷ []) (free : sample_refused (samples_of s items gone) (Push t x) ≡ None) (a : Accepts s (edit.Push x) receipt new) where
    times_pushed : drop gone left ≡ drop gone items ++ t ∷ []
    times_pushed = ap (drop gone) is ∙ drop-append-le gone items (t ∷ []) (omega arith)

    pub pushed : AcceptsSample (samples_of s items gone) (Push t x) receipt (samples_of new left gone)
    pushed = record {
      free = free;
      receipt_is = a.receipt_is;
      after = same_samples new _ (drop gone left) _ a.after times_pushed;
    }

    pub still_paired : gone + length new.held.elements ≡ length left
    still_paired = omega (arith, ap (λ (u : SeriesState). length u.held.elements) a.after, length-append s.held.elements (x ∷ []), length-append items (t ∷ []), ap length is)

    pub still_rising : IsRising (drop gone items) → IsRising (drop gone left)
    still_rising rising = subst IsRising (sym times_pushed) (rising_pushed (drop gone items) t x rising (neither (refused s (edit.Push x)) (earlier_refusal (drop gone items) (Push t x)) free).1)

  -- samples dropped in front, whether their times are still in memory or not
  module _ (index idle : ℕ) (left : List ℤ) (within : idle ≤ length left) (is : drop idle left ≡ drop (gone + (index - s.held.first)) items) (a : Accepts s (edit.Expire index) receipt new) where
    pub paired_after : idle + length new.held.elements ≡ length left
    paired_after =
        let dropped = index - s.held.first in
        omega (arith, ap length is, length-drop idle left, length-drop (gone + dropped) items, ap (λ (u : SeriesState). length u.held.elements) a.after, length-drop dropped s.held.elements)

    pub rising_after : IsRising (drop gone items) → IsRising (drop idle left)
    rising_after rising = subst IsRising (sym (is ∙ sym (drop-drop (index - s.held.first) gone items))) (rising_left (drop gone items) (index - s.held.first) rising)

-- a sample that found no memory
pub push_refused : (s new : SeriesState) (items : List ℤ) (gone : ℕ) (t x : ℤ) (left : List ℤ) (r : LongRefusal) → left ≡ take (length (items ++ t ∷ []) - 1) (items ++ t ∷ []) → sample_refused (samples_of s items gone) (Push t x) ≡ None → Refuses s (edit.Push x) r new → RefusesSample (samples_of s items gone) (Push t x) (Refused r) (samples_of new left gone)
push_refused s new items gone t x left r is free a =
    let known : refused s (edit.Push x) ≡ None = (neither (refused s (edit.Push x)) (earlier_refusal (drop gone items) (Push t x)) free).0 in
    let count : length (items ++ t ∷ []) - 1 ≡ length items = omega (arith, length-append items (t ∷ [])) in
    let same : left ≡ items = is ∙ ap (λ n. take n (items ++ t ∷ [])) count ∙ take-append-le (length items) items (t ∷ []) (omega arith) ∙ take_all (length items) items (omega arith) in
    let memory : r ≡ NoMemory = elim a.why [ inl e ↦ cc | inr e ↦ e.1 ] in
    record {
      why = inr (free, ap Refused memory);
      same = same_samples new s (drop gone left) (drop gone items) a.same (ap (drop gone) same);
    }

-- nothing refuses a sample, of equal samples too
pub free_too : (s z : SamplesState) (t u x y : ℤ) → z ≡ s → t ≡ u → x ≡ y → None ≡ sample_refused s (Push t x) → sample_refused z (Push u y) ≡ None
free_too s z t u x y state time value free =
    ap (λ w. sample_refused w (Push u y)) state ∙ ap (λ v. sample_refused s (Push u v)) (sym value) ∙ ap (λ v. sample_refused s (Push v x)) (sym time) ∙ sym free
