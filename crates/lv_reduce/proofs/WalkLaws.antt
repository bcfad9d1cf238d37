-- The walk of a reduction: at each index it takes the greatest fresh node that begins there and ends in the range, or
-- else the one cell, and so reads what the range's cost says.
use Rattle.std.proofs.Common.{◌≡◌, ℕ, ◌+◌, ◌-◌, ◌%◌, ◌^◌, ◌<◌, ◌≤◌, Bool, true, false, cond, sum_by, sym, ap, ◌∙◌, inl, inr, arith}
use Rattle.std.specs.List.{range_with_len}
use Rattle.std.proofs.lemmas.Bool.{cases_lt, cond-true, false≢true, false_from_ne_true}
use Rattle.std.proofs.Math.Nat.{add-mod_right}
use Rattle.lv_geometry.specs.declared.nodes.Node.{Node}
use Rattle.lv_geometry.specs.Nodes.{first_index, over}
use Rattle.lv_geometry.proofs.NodeLaws.{some_width}
use Rattle.lv_reduce.specs.Cost.{IsCost, is_bare, is_top, is_fresh_inside}
use Rattle.lv_reduce.specs.Pieces.{Fits, NoneFresh}
use Rattle.lv_reduce.proofs.Counting.{all_stay, one_greater, passes_below, passes_below-is, passes_below-next, passes_first, passes_none, passes_nowhere}
use Rattle.lv_reduce.proofs.NodeLaws.{aligned_of_first, first_le, first_of_aligned, lesser_aligned, multiples_apart, over_same, still_over}
use Rattle.lv_reduce.proofs.UsedLaws.{bare_before, bare_from, bare_parts, in_greater_none, in_greater_some, top_before, top_from, top_parts, used_at_start, used_from, used_parts}

-- how many summaries are read before an index
abbrev pub summaries_below : (Node → Bool) → ℕ → ℕ → ℕ → ℕ
summaries_below fresh lo hi at = sum_by (λ l. passes_below (is_top fresh lo hi l) at) (range_with_len 1 6)

-- how far a walk over the range has come: no used node has indices on both sides of the place, and the reads are those before it
pub record IsWalk (fresh : Node → Bool) (lo hi at cells summaries : ℕ) : Type 0 where
  pub low : lo ≤ at
  pub high : at ≤ hi
  pub begins : (level : ℕ) → 1 ≤ level → level ≤ 6 → is_fresh_inside fresh lo hi (over level at) ≡ true → at % 8 ^ level ≡ 0
  pub cells_are : cells ≡ passes_below (is_bare fresh lo hi) at
  pub summaries_are : summaries ≡ summaries_below fresh lo hi at
  pub few : cells + summaries ≤ at - lo

-- a walk begins at the start of the range
pub walk_starts : (fresh : Node → Bool) (lo hi : ℕ) → lo ≤ hi → IsWalk fresh lo hi lo 0 0
walk_starts fresh lo hi order = record {
  low = omega arith;
  high = order;
  begins = λ level low high. used_at_start fresh lo hi level;
  cells_are = sym (passes_nowhere (is_bare fresh lo hi) lo (bare_before fresh lo hi));
  summaries_are = sym (all_stay (λ l. 0) (λ l. passes_below (is_top fresh lo hi l) lo) 1 6 (λ l low high. passes_nowhere (is_top fresh lo hi l) lo (top_before fresh lo hi l)));
  few = omega arith;
}

-- at its end it has read what the range's cost says
pub walk_ends : (fresh : Node → Bool) (lo hi at cells summaries : ℕ) → IsWalk fresh lo hi at cells summaries → hi ≤ at → IsCost fresh lo hi cells summaries
walk_ends fresh lo hi at cells summaries walk end =
    let all : at ≡ hi = omega (arith, walk.high) in
    record {
      cells_are = walk.cells_are ∙ ap (passes_below (is_bare fresh lo hi)) all ∙ sym (passes_below-is (is_bare fresh lo hi) hi);
      summaries_are = walk.summaries_are ∙ ap (summaries_below fresh lo hi) all ∙ all_stay _ (λ l. passes_below (is_top fresh lo hi l) hi) 1 6 (λ l low high. sym (passes_below-is (is_top fresh lo hi l) hi));
    }

-- a walk at an index where a level is the greatest at which a fresh node begins, or 0
module _ (fresh : Node → Bool) (lo hi at cells summaries level : ℕ) (walk : IsWalk fresh lo hi at cells summaries) (low : level ≤ 6) (fits : Fits at hi level) (none : NoneFresh fresh at hi level) where
  -- no node of a greater level over the index is used
  none_above : (l : ℕ) → level < l → l ≤ 6 → is_fresh_inside fresh lo hi (over l at) ≡ false
  none_above l above few =
      false_from_ne_true _ (λ is.
      let aligned = walk.begins l (omega arith) few is in
      let used = used_parts fresh lo hi (over l at) is in
      let fits_too : Fits at hi l = record { begins = aligned; ends = omega (arith, used.high, first_of_aligned l at aligned) } in
      false≢true (sym (none l above few fits_too) ∙ used.fresh_is))

  -- a used node over the index past the node of this level begins there
  next_begins : (l : ℕ) → 1 ≤ l → l ≤ 6 → is_fresh_inside fresh lo hi (over l (at + 8 ^ level)) ≡ true → (at + 8 ^ level) % 8 ^ l ≡ 0
  next_begins l some few is =
      elim (cases_lt level l) [
        | inr no_above ↦ lesser_aligned (at + 8 ^ level) l level no_above (add-mod_right at (8 ^ level) ∙ fits.begins)
        | inl above ↦ elim (cases_lt (first_index (over l (at + 8 ^ level))) (at + 8 ^ level)) [
          | inl before ↦
              let same = still_over at level l (omega arith) fits.begins before in
              absurd (false≢true (sym (none_above l above few) ∙ ap (is_fresh_inside fresh lo hi) same ∙ is))
          | inr from ↦ aligned_of_first l (at + 8 ^ level) (omega (arith, first_le l (at + 8 ^ level)))
        ]
      ]

  -- no top of a greater level begins there, or behind it within the width
  none_greater : (l i : ℕ) → level < l → l ≤ 6 → at ≤ i → i < at + 8 ^ level → is_top fresh lo hi l i ≡ false
  none_greater l i above few from below =
      false_from_ne_true _ (λ is.
      let top = top_parts fresh lo hi l i is in
      let narrow = lesser_aligned i level l (omega arith) top.aligned in
      elim (cases_lt at i) [
        | inl behind ↦ absurd (omega (arith, multiples_apart (8 ^ level) at i fits.begins narrow behind))
        | inr here ↦
            let same : at ≡ i = omega arith in
            false≢true (sym (none_above l above few) ∙ ap (λ j. is_fresh_inside fresh lo hi (over l j)) same ∙ top.used)
      ])

  -- if no fresh node begins, one cell is read
  pub walk_cell : level ≡ 0 → at < hi → IsWalk fresh lo hi (at + 1) (cells + 1) summaries
  walk_cell lowest some =
      let wide : 8 ^ level ≡ 1 = ap (λ l. 8 ^ l) lowest in
      let next : at + 8 ^ level ≡ at + 1 = omega arith in
      let alone = in_greater_none fresh lo hi 0 at (λ l above few. none_above l (omega arith) few) in
      let read : cond {A = ℕ} (is_bare fresh lo hi at) 1 0 ≡ 1 = cond-true (is_bare fresh lo hi at) 1 0 (bare_from fresh lo hi at walk.low alone) in
      record {
        low = omega (arith, walk.low);
        high = omega arith;
        begins = λ l low few is. ap (λ j. j % 8 ^ l) (sym next) ∙ next_begins l low few (ap (λ j. is_fresh_inside fresh lo hi (over l j)) next ∙ is);
        cells_are = omega (arith, passes_below-next (is_bare fresh lo hi) at, walk.cells_are);
        summaries_are =
            walk.summaries_are
            ∙ sym (all_stay (λ l. passes_below (is_top fresh lo hi l) at) (λ l. passes_below (is_top fresh lo hi l) (at + 1)) 1 6
            (λ l low high. passes_none (is_top fresh lo hi l) at 1 (λ i from below. none_greater l i (omega arith) (omega arith) from (omega arith))));
        few = omega (arith, walk.few, walk.low);
      }

  -- else the summary of a fresh node
  module _ (some : 1 ≤ level) (is_fresh : fresh (over level at) ≡ true) where
    -- the node is used
    node_used : is_fresh_inside fresh lo hi (over level at) ≡ true
    node_used =
        let first = first_of_aligned level at fits.begins in
        used_from fresh lo hi (over level at) record { fresh_is = is_fresh; low = omega (arith, walk.low); high = omega (arith, fits.ends) }

    -- the node of its level over each of its indices is used
    inside_used : (i : ℕ) → at ≤ i → i < at + 8 ^ level → is_fresh_inside fresh lo hi (over level i) ≡ true
    inside_used i from below =
        let first = first_of_aligned level at fits.begins in
        ap (is_fresh_inside fresh lo hi) (over_same level at i (omega arith) (omega arith)) ∙ node_used

    -- none of them is bare
    none_bare : (i : ℕ) → at ≤ i → i < at + 8 ^ level → is_bare fresh lo hi i ≡ false
    none_bare i from below =
        false_from_ne_true _ (λ is. false≢true (sym (bare_parts fresh lo hi i is).1 ∙ in_greater_some fresh lo hi 0 level i some low (inside_used i from below)))

    -- none begins a top of a lesser level
    none_lesser : (l i : ℕ) → l < level → at ≤ i → i < at + 8 ^ level → is_top fresh lo hi l i ≡ false
    none_lesser l i below_level from below =
        false_from_ne_true _ (λ is. false≢true (sym (top_parts fresh lo hi l i is).alone ∙ in_greater_some fresh lo hi l level i below_level low (inside_used i from below)))

    -- the first begins one of this level
    pub first_top : is_top fresh lo hi level at ≡ true
    first_top =
        top_from fresh lo hi level at record { aligned = fits.begins; used = node_used; alone = in_greater_none fresh lo hi level at none_above }

    -- and no other does
    none_behind : (i : ℕ) → at < i → i < at + 8 ^ level → is_top fresh lo hi level i ≡ false
    none_behind i behind below =
        false_from_ne_true _ (λ is. absurd (omega (arith, multiples_apart (8 ^ level) at i fits.begins (top_parts fresh lo hi level i is).aligned behind)))

    -- so the tops of other levels are no more than before
    other_tops : (l : ℕ) → l ≤ 6 → (l ≡ level → ⊥) → passes_below (is_top fresh lo hi l) (at + 8 ^ level) ≡ passes_below (is_top fresh lo hi l) at
    other_tops l few other =
        passes_none (is_top fresh lo hi l) at (8 ^ level)
        (λ i from below. elim (cases_lt l level) [
          | inl lesser ↦ none_lesser l i lesser from below
          | inr no_lesser ↦ none_greater l i (omega arith) few from below
        ])

    -- and one summary is read
    pub walk_node : IsWalk fresh lo hi (at + 8 ^ level) cells (summaries + 1)
    walk_node = record {
      low = omega (arith, walk.low);
      high = fits.ends;
      begins = next_begins;
      cells_are = walk.cells_are ∙ sym (passes_none (is_bare fresh lo hi) at (8 ^ level) none_bare);
      summaries_are =
          ap (λ n. n + 1) walk.summaries_are
          ∙ sym (one_greater (λ l. passes_below (is_top fresh lo hi l) at) (λ l. passes_below (is_top fresh lo hi l) (at + 8 ^ level)) 1 6 level some (omega arith)
          (passes_first (is_top fresh lo hi level) at (8 ^ level) (some_width level) first_top none_behind)
          (λ l low high other. other_tops l (omega arith) other));
      few = omega (arith, walk.few, walk.low, some_width level);
    }
