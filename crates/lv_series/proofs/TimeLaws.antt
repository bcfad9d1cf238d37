-- A search among times that do not fall: what is known of them as it goes.
use Rattle.std.proofs.Common.{◌≡◌, ℕ, ℤ, pos, ◌+◌, ◌<◌, ◌≤◌, true, false, All, IsTrue, List, length, take, drop, slice_index_or, int_le, int_lt, ap, ◌∙◌, arith, length-drop, length-take}
use Rattle.std.proofs.lemmas.Int.{ints}
use Rattle.std.proofs.lemmas.List.{get_or-drop, get_or-take, get_or_default}
use Rattle.lv_series.specs.Samples.{IsRising}

-- the time at a place
abbrev pub time_at : List ℤ → ℕ → ℤ
time_at times k = slice_index_or times k (pos 0)

-- those before one place are before a time, and those from another place on are not
pub record IsSought (times : List ℤ) (time : ℤ) (low high : ℕ) : Type 0 where
  pub order : low ≤ high
  pub within : high ≤ length times
  pub before : (k : ℕ) → k < low → int_lt (time_at times k) time ≡ true
  pub behind : (k : ℕ) → high ≤ k → k < length times → int_lt (time_at times k) time ≡ false

lt_back : (a b t : ℤ) → IsTrue (int_le a b) → int_lt b t ≡ true → int_lt a t ≡ true
lt_back a b t le lt = grind (arith, ints)

not_lt_on : (a b t : ℤ) → IsTrue (int_le a b) → int_lt a t ≡ false → int_lt b t ≡ false
not_lt_on a b t le not = grind (arith, ints)

module _ (times : List ℤ) (time : ℤ) where
  pub sought_first : IsSought times time 0 (length times)
  sought_first = record {
    order = omega arith;
    within = omega arith;
    before = λ k below. absurd (omega arith);
    behind = λ k above below. absurd (omega arith);
  }

  pub sought_above : (low high mid : ℕ) → IsRising times → IsSought times time low high → mid < high → int_lt (time_at times mid) time ≡ true → IsSought times time (mid + 1) high
  sought_above low high mid rising sought below lt = record {
    order = omega arith;
    within = sought.within;
    before = λ k front. lt_back (time_at times k) (time_at times mid) time (rising.rises k mid (omega arith) (omega (arith, sought.within))) lt;
    behind = sought.behind;
  }

  pub sought_below : (low high mid : ℕ) → IsRising times → IsSought times time low high → low ≤ mid → mid < high → int_lt (time_at times mid) time ≡ false → IsSought times time low mid
  sought_below low high mid rising sought above below not = record {
    order = above;
    within = omega (arith, sought.within);
    before = sought.before;
    behind = λ k from inside. not_lt_on (time_at times mid) (time_at times k) time (rising.rises mid k from inside) not;
  }

  -- if the two places are one, all times before it are before the time, and all others are not
  pub all_before : (low high : ℕ) → IsSought times time low high → All (λ t. int_lt t time ≡ true) (take low times)
  all_before low high sought k d inside =
      let short : k < low = omega (arith, length-take low times) in
      let long : k < length times = omega (arith, length-take low times) in
      ap (λ t. int_lt t time) (get_or-take low times k d short ∙ get_or_default times k d (pos 0) long) ∙ sought.before k short

  pub all_behind : (low high : ℕ) → IsSought times time low high → high ≤ low → All (λ t. int_lt t time ≡ false) (drop low times)
  all_behind low high sought meet k d inside =
      let long : low + k < length times = omega (arith, length-drop low times) in
      ap (λ t. int_lt t time) (get_or-drop low times k d ∙ get_or_default times (low + k) d (pos 0) long) ∙ sought.behind (low + k) (omega arith) long
