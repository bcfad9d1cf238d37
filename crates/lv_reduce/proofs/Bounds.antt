-- That a reduction reads little: the cells of stale blocks, and at each end of the range at most seven cells, and at
-- most seven summaries of each level.
use Rattle.std.proofs.Common.{◌≡◌, ℕ, ◌+◌, ◌-◌, ◌*◌, ◌/◌, ◌^◌, ◌<◌, ◌≤◌, ◌⊎◌, Bool, true, ◌&&◌, not, nat_le, count_by, get_or, sym, ap, ◌∙◌, inl, inr, arith}
use Rattle.std.specs.List.{range_with_len}
use Rattle.std.proofs.lemmas.Bool.{and_from, and_parts, cases_Bool, cases_lt, false_from_ne_true, false≢true, le-leb, leb-true, not-true, not_from_false}
use Rattle.std.proofs.lemmas.Grind.{pow_more}
use Rattle.std.proofs.lemmas.List.FromFn.{get_or-range_with_len}
use Rattle.std.proofs.lemmas.List.Sums.{sum_by-le}
use Rattle.std.proofs.Math.Nat.{div-div-eq-div-mul, div-lt_iff_lt-mul, le-div_iff_mul-le, mul-div_cancel}
use Rattle.lv_geometry.specs.declared.nodes.Node.{Node}
use Rattle.lv_geometry.specs.Nodes.{first_index, over}
use Rattle.lv_geometry.proofs.NodeLaws.{some_width}
use Rattle.lv_reduce.specs.Cost.{AllFresh, IsCost, IsFew, count_cells, is_bare, is_top, unfresh_blocks, count_summaries}
use Rattle.lv_reduce.proofs.Counting.{passes_below, passes_below-is, passes_eighths, passes_either, passes_mono, passes_multiples, passes_nowhere, passes_within}
use Rattle.lv_reduce.proofs.NodeLaws.{first_of_aligned}
use Rattle.lv_reduce.proofs.UsedLaws.{bare_parts, in_greater_some, top_parts, used_from, used_parts}

-- a number is at or behind a bound, and its group of eight begins before that; or it is before a bound, and its group ends behind that
abbrev pub IsCut : ℕ → ℕ → ℕ → Type 0
IsCut lo hi k = ((lo ≤ k) × (k / 8 * 8 < lo)) ⊎ ((k < hi) × (hi < k / 8 * 8 + 8))

-- whether a number is at or behind the first bound, and its group of eight begins before that
is_cut_low : ℕ → ℕ → Bool
is_cut_low lo k = nat_le lo k && nat_le (k / 8 * 8 + 1) lo

-- whether a number is before the second bound, and its group of eight ends behind that
is_cut_high : ℕ → ℕ → Bool
is_cut_high hi k = nat_le (k + 1) hi && nat_le (hi + 1) (k / 8 * 8 + 8)

-- at most seven numbers are cut by either bound
pub few_cut : (p : ℕ → Bool) (lo hi n : ℕ) → ((k : ℕ) → k < n → p k ≡ true → IsCut lo hi k) → passes_below p n ≤ 14
unfolding is_cut_low is_cut_high
few_cut p lo hi n cut =
    let low : passes_below (is_cut_low lo) n ≤ 7 =
    passes_within (is_cut_low lo) n lo 7
    (λ k below is.
    let parts = and_parts (nat_le lo k) _ is in
    let from = leb-true _ _ parts.0 in
    let begins = leb-true _ _ parts.1 in
    (from, omega arith)) in
    let high : passes_below (is_cut_high hi) n ≤ 7 =
    passes_within (is_cut_high hi) n (hi - 7) 7
    (λ k below is.
    let parts = and_parts (nat_le (k + 1) hi) _ is in
    let before = leb-true _ _ parts.0 in
    let ends = leb-true _ _ parts.1 in
    (omega arith, omega arith)) in
    let either = passes_either p (is_cut_low lo) (is_cut_high hi) n
    (λ k below passes. elim (cut k below passes) [
      | inl is ↦ inl (and_from (nat_le lo k) _ (le-leb lo k is.0) (le-leb (k / 8 * 8 + 1) lo (omega (arith, is.1))))
      | inr is ↦ inr (and_from (nat_le (k + 1) hi) _ (le-leb (k + 1) hi (omega (arith, is.0))) (le-leb (hi + 1) (k / 8 * 8 + 8) (omega (arith, is.1))))
    ]) in
    omega arith

-- in units of a width, a bound that a multiple isn't below, rounded up
low_in_units : (lo w k : ℕ) → 1 ≤ w → lo ≤ k * w → (lo + (w - 1)) / w ≤ k
low_in_units lo w k some from =
    let below : (lo + (w - 1)) / w < k + 1 = (div-lt_iff_lt-mul {k = w} {x = lo + (w - 1)} {y = k + 1} (omega arith)).1 (omega arith) in omega arith

-- and one that it is below
below_in_units : (lo w k : ℕ) → 1 ≤ w → k * w < lo → k < (lo + (w - 1)) / w
below_in_units lo w k some before =
    let above : k + 1 ≤ (lo + (w - 1)) / w = (le-div_iff_mul-le {k = w} {x = k + 1} {y = lo + (w - 1)} (omega arith)).1 (omega arith) in omega arith

-- a bound that a multiple ends before, rounded down
high_in_units : (hi w k : ℕ) → 1 ≤ w → k * w + w ≤ hi → k < hi / w
high_in_units hi w k some ends =
    let above : k + 1 ≤ hi / w = (le-div_iff_mul-le {k = w} {x = k + 1} {y = hi} (omega arith)).1 (omega arith) in omega arith

-- and one that it ends behind
behind_in_units : (hi w k : ℕ) → 1 ≤ w → hi < k * w → hi / w < k
behind_in_units hi w k some past = (div-lt_iff_lt-mul {k = w} {x = hi} {y = k} (omega arith)).1 past

-- where the node one level up over a multiple of a width begins
parent_begins : (l k : ℕ) → first_index (over (l + 1) (k * 8 ^ l)) ≡ k / 8 * 8 * 8 ^ l
parent_begins l k =
    let some = some_width l in
    let wide : 8 ^ (l + 1) ≡ 8 ^ l * 8 = pow_more 8 l in
    let number : k * 8 ^ l / (8 ^ l * 8) ≡ k / 8 = sym (div-div-eq-div-mul (k * 8 ^ l) (8 ^ l) 8) ∙ ap (λ n. n / 8) (mul-div_cancel k {n = 8 ^ l} (omega arith)) in
    ap (λ w. k * 8 ^ l / w * w) wide ∙ ap (λ n. n * (8 ^ l * 8)) number ∙ omega arith

module _ (fresh : Node → Bool) (lo hi : ℕ) where
  -- whether a block is in the range, and isn't fresh
  abbrev is_stale : ℕ → Bool
  is_stale b = nat_le lo (8 * b) && (nat_le (8 * b + 8) hi && not (fresh record { level = 1; number = b }))

  -- whether a bare index is in a block that is partly outside the range
  is_bare_at_end : ℕ → Bool
  is_bare_at_end i = is_bare fresh lo hi i && not (is_stale (i / 8))

  -- of a bare index that is in no stale block the block is cut
  end_is_cut : (i : ℕ) → i < hi → is_bare_at_end i ≡ true → IsCut lo hi i
  unfolding is_bare_at_end
  end_is_cut i below is =
      let parts = and_parts (is_bare fresh lo hi i) _ is in
      let bare = bare_parts fresh lo hi i parts.0 in
      elim (cases_lt (i / 8 * 8) lo) [
        | inl low ↦ inl (bare.0, low)
        | inr from ↦ elim (cases_lt hi (i / 8 * 8 + 8)) [
          | inl high ↦ inr (below, high)
          | inr to ↦ elim (cases_Bool (fresh (over 1 i))) [
            | inl is_fresh ↦
                let used = used_from fresh lo hi (over 1 i) record { fresh_is = is_fresh; low = from; high = to } in
                absurd (false≢true (sym bare.1 ∙ in_greater_some fresh lo hi 0 1 i (omega arith) (omega arith) used))
            | inr stale ↦
                let is_one = and_from _ _ (le-leb lo (8 * (i / 8)) (omega arith)) (and_from _ _ (le-leb (8 * (i / 8) + 8) hi (omega arith)) (not_from_false _ stale)) in
                absurd (false≢true (sym (not-true _ parts.1) ∙ is_one))
          ]
        ]
      ]

  -- the cells that are read are those of stale blocks, and at most 14 more
  few_cells : count_cells fresh lo hi ≤ 14 + 8 * unfresh_blocks fresh lo hi
  unfolding is_bare_at_end
  few_cells =
      let longer : hi + (8 * hi - hi) ≡ 8 * hi = omega arith in
      let ends = few_cut is_bare_at_end lo hi hi end_is_cut in
      let either = passes_either (is_bare fresh lo hi) is_bare_at_end (λ i. is_stale (i / 8)) hi
      (λ i below bare. elim (cases_Bool (is_stale (i / 8))) [
        | inl stale ↦ inr stale
        | inr other ↦ inl (and_from _ _ bare (not_from_false _ other))
      ]) in
      let stale = passes_mono (λ i. is_stale (i / 8)) hi (8 * hi - hi) in
      let all = ap (passes_below (λ i. is_stale (i / 8))) longer in
      omega (arith, ends, either, stale, all, passes_eighths is_stale hi, passes_below-is (is_bare fresh lo hi) hi, passes_below-is is_stale hi)

  -- if every node inside the range is fresh, no block inside it is stale
  none_stale : AllFresh fresh lo hi → unfresh_blocks fresh lo hi ≡ 0
  none_stale all =
      passes_below-is is_stale hi
      ∙ passes_nowhere is_stale hi
      (λ b below. false_from_ne_true _ (λ is.
      let parts = and_parts (nat_le lo (8 * b)) _ is in
      let rest = and_parts (nat_le (8 * b + 8) hi) _ parts.1 in
      let from = leb-true _ _ parts.0 in
      let to = leb-true _ _ rest.0 in
      let is_fresh = all record { level = 1; number = b } (omega arith) (omega arith) (omega arith) (omega arith) in
      false≢true (sym (not-true _ rest.1) ∙ is_fresh)))

  -- a top of a level below the last, counted in its widths, is cut by the bounds: else the node one level up were used
  top_is_cut : AllFresh fresh lo hi → (l k : ℕ) → 1 ≤ l → l ≤ 5 → is_top fresh lo hi l (k * 8 ^ l) ≡ true → IsCut ((lo + (8 ^ l - 1)) / 8 ^ l) (hi / 8 ^ l) k
  top_is_cut all l k low few is =
      let top = top_parts fresh lo hi l (k * 8 ^ l) is in
      let used = used_parts fresh lo hi (over l (k * 8 ^ l)) top.used in
      let first = first_of_aligned l (k * 8 ^ l) top.aligned in
      let some = some_width l in
      let parent = parent_begins l k in
      let wide : 8 ^ (l + 1) ≡ 8 ^ l * 8 = pow_more 8 l in
      elim (cases_lt (k / 8 * 8 * 8 ^ l) lo) [
        | inl before ↦ inl (low_in_units lo (8 ^ l) k some (omega (arith, used.low)), below_in_units lo (8 ^ l) (k / 8 * 8) some before)
        | inr from ↦ elim (cases_lt hi ((k / 8 * 8 + 8) * 8 ^ l)) [
          | inl past ↦ inr (high_in_units hi (8 ^ l) k some (omega (arith, used.high)), behind_in_units hi (8 ^ l) (k / 8 * 8 + 8) some past)
          | inr to ↦
              let begins : lo ≤ first_index (over (l + 1) (k * 8 ^ l)) = omega arith in
              let ends : first_index (over (l + 1) (k * 8 ^ l)) + 8 ^ (l + 1) ≤ hi = omega arith in
              let is_fresh = all (over (l + 1) (k * 8 ^ l)) begins ends (omega arith) (omega arith) in
              let greater = used_from fresh lo hi (over (l + 1) (k * 8 ^ l)) record { fresh_is = is_fresh; low = begins; high = ends } in
              absurd (false≢true (sym top.alone ∙ in_greater_some fresh lo hi l (l + 1) (k * 8 ^ l) (omega arith) (omega arith) greater))
        ]
      ]

  -- of the last level there are no more than the greatest vector has
  top_of_last : (k : ℕ) → hi ≤ 1048576 → is_top fresh lo hi 6 (k * 8 ^ 6) ≡ true → k < 4
  top_of_last k small is =
      let top = top_parts fresh lo hi 6 (k * 8 ^ 6) is in
      let used = used_parts fresh lo hi (over 6 (k * 8 ^ 6)) top.used in
      let first = first_of_aligned 6 (k * 8 ^ 6) top.aligned in
      omega (arith, used.high)

  -- so there are few tops of each level
  few_tops : AllFresh fresh lo hi → hi ≤ 1048576 → (l : ℕ) → 1 ≤ l → l ≤ 6 → passes_below (is_top fresh lo hi l) hi ≤ 14
  few_tops all small l low high =
      let multiples = passes_multiples (is_top fresh lo hi l) (8 ^ l) hi (some_width l) (λ i is. (top_parts fresh lo hi l i is).aligned) in
      elim (cases_lt l 6) [
        | inl below ↦
            let cut = few_cut (λ k. is_top fresh lo hi l (k * 8 ^ l)) ((lo + (8 ^ l - 1)) / 8 ^ l) (hi / 8 ^ l) hi (λ k _ is. top_is_cut all l k low (omega arith) is) in
            omega arith
        | inr last ↦
            let level : l ≡ 6 = omega arith in
            let few = passes_within (λ k. is_top fresh lo hi 6 (k * 8 ^ 6)) hi 0 14 (λ k _ is. let last = top_of_last k small is in (omega arith, omega arith)) in
            omega (arith, ap (λ l. passes_below (λ k. is_top fresh lo hi l (k * 8 ^ l)) hi) level)
      ]

  -- and few summaries in all
  few_summaries : AllFresh fresh lo hi → hi ≤ 1048576 → count_summaries fresh lo hi ≤ 84
  few_summaries all small =
      sum_by-le (λ l. count_by (is_top fresh lo hi l) (range_with_len 0 hi)) 14 (range_with_len 1 6)
      (λ k d within.
      let level : get_or (range_with_len 1 6) k d ≡ 1 + k = get_or-range_with_len 1 6 k d within in
      let few = few_tops all small (1 + k) (omega arith) (omega arith) in
      omega (arith, ap (λ l. passes_below (is_top fresh lo hi l) hi) level, passes_below-is (is_top fresh lo hi (get_or (range_with_len 1 6) k d)) hi))

  -- so what is read is little
  pub few_reads : (cells summaries : ℕ) → hi ≤ 1048576 → IsCost fresh lo hi cells summaries → IsFew fresh lo hi cells summaries
  few_reads cells summaries small cost = record {
    bound = omega (arith, cost.cells_are, few_cells);
    when_fresh = λ all. (omega (arith, cost.cells_are, few_cells, none_stale all), omega (arith, cost.summaries_are, few_summaries all small));
  }
