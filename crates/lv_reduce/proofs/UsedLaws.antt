-- Nodes that are used in a range, and the indices in them.
use Rattle.std.proofs.Common.{◌≡◌, ℕ, ◌+◌, ◌-◌, ◌%◌, ◌^◌, ◌<◌, ◌≤◌, Bool, true, false, nat_eq, nat_le, ap, ◌∙◌, arith}
use Rattle.std.specs.List.{range_with_len}
use Rattle.std.proofs.lemmas.Bool.{and_from, and_parts, eq-eqb, eqb-true, false_from_ne_true, le-leb, leb-true, not-true, not_from_false}
use Rattle.std.proofs.lemmas.List.Folds.{list_any_at, list_any_none}
use Rattle.std.proofs.lemmas.List.FromFn.{get_or-range_with_len, length-range_with_len}
use Rattle.lv_geometry.specs.declared.nodes.Node.{Node}
use Rattle.lv_geometry.specs.Nodes.{first_index, over, width}
use Rattle.lv_reduce.specs.Cost.{is_bare, is_in_greater, is_top, is_fresh_inside}
use Rattle.lv_reduce.proofs.NodeLaws.{aligned_of_first, first_le}

-- a node is used: it is fresh, and inside the range
pub record IsUsed (fresh : Node → Bool) (lo hi : ℕ) (n : Node) : Type 0 where
  pub fresh_is : fresh n ≡ true
  pub low : lo ≤ first_index n
  pub high : first_index n + width n ≤ hi

-- an index begins a used node of a level, which is in no greater one
pub record IsTop (fresh : Node → Bool) (lo hi l i : ℕ) : Type 0 where
  pub aligned : i % 8 ^ l ≡ 0
  pub used : is_fresh_inside fresh lo hi (over l i) ≡ true
  pub alone : is_in_greater fresh lo hi l i ≡ false

module _ (fresh : Node → Bool) (lo hi : ℕ) where
  -- what passes the test of a used node is used
  pub used_parts : (n : Node) → is_fresh_inside fresh lo hi n ≡ true → IsUsed fresh lo hi n
  used_parts n used =
      let parts = and_parts (fresh n) _ used in
      let inside = and_parts (nat_le lo (first_index n)) _ parts.1 in
      record { fresh_is = parts.0; low = leb-true _ _ inside.0; high = leb-true _ _ inside.1 }

  -- and what is used passes it
  pub used_from : (n : Node) → IsUsed fresh lo hi n → is_fresh_inside fresh lo hi n ≡ true
  used_from n used = and_from _ _ used.fresh_is (and_from _ _ (le-leb _ _ used.low) (le-leb _ _ used.high))

  -- what passes the test of a top is one
  pub top_parts : (l i : ℕ) → is_top fresh lo hi l i ≡ true → IsTop fresh lo hi l i
  top_parts l i top =
      let parts = and_parts (nat_eq (i % 8 ^ l) 0) _ top in
      let rest = and_parts (is_fresh_inside fresh lo hi (over l i)) _ parts.1 in
      record { aligned = eqb-true _ _ parts.0; used = rest.0; alone = not-true _ rest.1 }

  -- and a top passes it
  pub top_from : (l i : ℕ) → IsTop fresh lo hi l i → is_top fresh lo hi l i ≡ true
  top_from l i top = and_from _ _ (eq-eqb _ _ top.aligned) (and_from _ _ top.used (not_from_false _ top.alone))

  -- a bare index is in the range, and in no used node
  pub bare_parts : (i : ℕ) → is_bare fresh lo hi i ≡ true → (lo ≤ i) × (is_in_greater fresh lo hi 0 i ≡ false)
  bare_parts i bare = let parts = and_parts (nat_le lo i) _ bare in (leb-true _ _ parts.0, not-true _ parts.1)

  -- such an index is bare
  pub bare_from : (i : ℕ) → lo ≤ i → is_in_greater fresh lo hi 0 i ≡ false → is_bare fresh lo hi i ≡ true
  bare_from i low alone = and_from _ _ (le-leb _ _ low) (not_from_false _ alone)

  -- an index is in a greater used node if one over it is used
  pub in_greater_some : (l level i : ℕ) → l < level → level ≤ 6 → is_fresh_inside fresh lo hi (over level i) ≡ true → is_in_greater fresh lo hi l i ≡ true
  in_greater_some l level i above low used =
      let place : l + 1 + (level - (l + 1)) ≡ level = omega arith in
      let at = get_or-range_with_len (l + 1) (6 - l) (level - (l + 1)) 0 (omega arith) ∙ place in
      list_any_at (λ k. is_fresh_inside fresh lo hi (over k i)) (range_with_len (l + 1) (6 - l)) (level - (l + 1)) 0
      (omega (arith, length-range_with_len (l + 1) (6 - l)))
      (ap (λ k. is_fresh_inside fresh lo hi (over k i)) at ∙ used)

  -- and in none if none is
  pub in_greater_none : (l i : ℕ) → ((level : ℕ) → l < level → level ≤ 6 → is_fresh_inside fresh lo hi (over level i) ≡ false) → is_in_greater fresh lo hi l i ≡ false
  in_greater_none l i none =
      list_any_none (λ k. is_fresh_inside fresh lo hi (over k i)) (range_with_len (l + 1) (6 - l))
      (λ k d within.
      let below : k < 6 - l = omega (arith, length-range_with_len (l + 1) (6 - l)) in
      ap (λ level. is_fresh_inside fresh lo hi (over level i)) (get_or-range_with_len (l + 1) (6 - l) k d below) ∙ none (l + 1 + k) (omega arith) (omega arith))

  -- an index before the range begins no top
  pub top_before : (l i : ℕ) → i < lo → is_top fresh lo hi l i ≡ false
  top_before l i before =
      false_from_ne_true _ (λ is. let used = used_parts (over l i) (top_parts l i is).used in absurd (omega (arith, used.low, first_le l i)))

  -- and is not bare
  pub bare_before : (i : ℕ) → i < lo → is_bare fresh lo hi i ≡ false
  bare_before i before = false_from_ne_true _ (λ is. absurd (omega (arith, (bare_parts i is).0)))

  -- a used node over the start of the range begins there
  pub used_at_start : (level : ℕ) → is_fresh_inside fresh lo hi (over level lo) ≡ true → lo % 8 ^ level ≡ 0
  used_at_start level is =
      let used = used_parts (over level lo) is in aligned_of_first level lo (omega (arith, used.low, first_le level lo))
