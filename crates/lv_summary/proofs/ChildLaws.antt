-- The rows of a whole node that is not fresh, and of the eight children of one above level 1.
use Rattle.std.proofs.Common.{◌≡◌, ℕ, zero, suc, ◌+◌, ◌-◌, ◌*◌, ◌^◌, ◌<◌, ◌≤◌, Bool, true, false, ◌&&◌, not, Option, Some, None, [], ◌∷◌, get_or, nat_eq, slice_get, refl, subst, sym, ap, ◌∙◌, inl, inr, arith}
use Rattle.std.specs.List.{list_all, range_with_len}
use Rattle.std.specs.Option.{IfNone, IfSome}
use Rattle.std.proofs.Math.Nat.{mul-le-mul_right}
use Rattle.std.proofs.Math.Bool.{and-true}
use Rattle.std.proofs.lemmas.Bool.{and_from, and_parts, and_right, le-leb, leb-true}
use Rattle.std.proofs.lemmas.Grind.{pow_more}
use Rattle.std.proofs.lemmas.List.Folds.{list_all-append}
use Rattle.std.proofs.lemmas.Option.{slice_get_cases}
use Rattle.lv_geometry.specs.declared.levels.Levels.{Levels}
use Rattle.lv_geometry.specs.declared.nodes.Node.{Node}
use Rattle.lv_geometry.specs.Levels.{thing_at}
use Rattle.lv_geometry.specs.Nodes.{child, is_below, is_node}
use Rattle.lv_geometry.proofs.NodeLaws.{at_each_level, level_of_node, node_of_level}
use Rattle.lv_geometry.proofs.Ranges.{below_more}
use Rattle.lv_summary.specs.declared.accepted.Accepted.TheVariants.{Installed}
use Rattle.lv_summary.specs.Inner.{IsRowOf, IsSound, LevelState, table_of}
use Rattle.lv_summary.specs.Table.{Rows, Table, delivery_in, entry_in, fresh_in, rows_for, touched_in, whole_in}
use Rattle.lv_summary.proofs.NodeRows.{IsRowOf-whole, entry_in-by_row, fresh_in-by_row, fresh_in-rows, rows_at, touched_in-inside}
use Rattle.lv_summary.proofs.TableLaws.{current_of_installed, node_of_whole, whole_of_fresh}

-- a test of one number more
pub one_more_all : (p : ℕ → Bool) (k : ℕ) → list_all p (range_with_len 0 (k + 1)) ≡ (list_all p (range_with_len 0 k) && p k)
one_more_all p k =
    ap (list_all p) (below_more k) ∙ list_all-append p (range_with_len 0 k) (k ∷ []) ∙ ap (λ last. list_all p (range_with_len 0 k) && last) (and-true (p k))

-- the rows of a level of the table are those of its thing
pub rows_of_thing : {S : Type 0} (size : ℕ) (of : Levels (LevelState S)) (level : ℕ) → 1 ≤ level → level ≤ 6 → (thing_at of level).rows ≡ rows_at (table_of size of) level
rows_of_thing size of level low high = at_each_level (λ level. (thing_at of level).rows ≡ rows_at (table_of size of) level) refl refl refl refl refl refl level low high

-- two tests that say the same of each number below n
all_alike : (p q : ℕ → Bool) (n : ℕ) → ((k : ℕ) → k < n → p k ≡ q k) → list_all p (range_with_len 0 n) ≡ list_all q (range_with_len 0 n)
all_alike p q zero same = refl
all_alike p q (suc n) same =
    let next : n + 1 ≡ suc n = omega arith in
    let before = all_alike p q n (λ k below. same k (omega (arith, below))) in
    subst (λ m. list_all p (range_with_len 0 m) ≡ list_all q (range_with_len 0 m)) next
    (one_more_all p n ∙ ap (λ all. all && p n) before ∙ ap (λ last. list_all q (range_with_len 0 n) && last) (same n (omega arith)) ∙ sym (one_more_all q n))

module _ {S : Type 0} (t : Table S) (n : Node) (rows : Rows S) (row : IsRowOf t n rows) where
  -- what is due is of a whole node that is not fresh
  pub due_some : (result : Option ℕ) → IfSome result (λ edit. (edit ≡ get_or rows.touched n.number 0) × (nat_eq (get_or rows.stamps n.number 0) (get_or rows.touched n.number 0 + 1) ≡ false))
      → IfSome result (λ edit. (whole_in t n ≡ true) × (fresh_in t n ≡ false) × (edit ≡ touched_in t n))
  due_some None is = tt
  due_some (Some edit) is =
      (row.whole, fresh_in-rows t n rows row ∙ is.1, is.0 ∙ ap (λ r. get_or r.touched n.number 0) row.level ∙ sym (touched_in-inside t n (node_of_whole t n row.whole)))

  -- and if nothing is, the node is fresh
  pub due_none : (result : Option ℕ) → IfNone result (nat_eq (get_or rows.stamps n.number 0) (get_or rows.touched n.number 0 + 1) ≡ true) → IfNone result ((whole_in t n && not (fresh_in t n)) ≡ false)
  due_none None is = and_right (whole_in t n) _ (ap not (fresh_in-rows t n rows row ∙ is))
  due_none (Some edit) is = tt

-- the end of one of eight parts of a width is no later than the end of all
part_below : (number k w : ℕ) → k < 8 → (8 * number + k + 1) * w ≤ (number + 1) * (8 * w)
part_below number k w within =
    let parts : (k + 1) * w ≤ 8 * w = mul-le-mul_right w (omega arith) in
    omega arith

module _ {S : Type 0} (t : Table S) (n : Node) (whole : whole_in t n ≡ true) (above : 1 < n.level) where
  -- a child of a whole node is whole
  child_whole : (k : ℕ) → k < 8 → whole_in t (child n k) ≡ true
  child_whole k within =
      let levels = level_of_node n (node_of_whole t n whole) in
      let next : n.level - 1 + 1 ≡ n.level = omega arith in
      let width : 8 ^ n.level ≡ 8 * 8 ^ (n.level - 1) = omega (arith, ap (λ l. 8 ^ l) next, pow_more 8 (n.level - 1)) in
      let wide : (n.number + 1) * 8 ^ n.level ≡ (n.number + 1) * (8 * 8 ^ (n.level - 1)) = ap (λ w. (n.number + 1) * w) width in
      let below : (n.number + 1) * 8 ^ n.level ≤ t.size = leb-true _ _ (and_parts (is_node n) _ whole).1 in
      and_from (is_node (child n k)) (is_below (child n k) t.size) (node_of_level (child n k) (omega arith) (omega (arith, levels.1)))
      (le-leb _ _ (omega (arith, part_below n.number k (8 ^ (n.level - 1)) within)))

  module _ (sound : IsSound t) where
    -- and has its row
    pub child_row : (k : ℕ) → k < 8 → IsRowOf t (child n k) (rows_for t (child n k))
    child_row k within = IsRowOf-whole t (child n k) sound (child_whole k within)

    -- so the children are fresh if their stamps say so
    pub children_fresh-rows : list_all (λ k. nat_eq (get_or (rows_for t (child n 0)).stamps (8 * n.number + k) 0) (get_or (rows_for t (child n 0)).touched (8 * n.number + k) 0 + 1)) (range_with_len 0 8) ≡ list_all (λ k. fresh_in t (child n k)) (range_with_len 0 8)
    children_fresh-rows =
        all_alike (λ k. nat_eq (get_or (rows_for t (child n 0)).stamps (8 * n.number + k) 0) (get_or (rows_for t (child n 0)).touched (8 * n.number + k) 0 + 1)) (λ k. fresh_in t (child n k)) 8
        (λ k within. sym (fresh_in-by_row t (child n k) (child_row k within)))

-- the summary in the row of a fresh child of a whole node is the child's summary
pub child_entry : {S : Type 0} (t : Table S) (n : Node) (whole : whole_in t n ≡ true) (above : 1 < n.level) (sound : IsSound t) (k : ℕ) → k < 8 → fresh_in t (child n k) ≡ true → slice_get (rows_for t (child n k)).kept (8 * n.number + k) ≡ entry_in t (child n k)
child_entry t n whole above sound k within fresh =
    let row = child_row t n whole above sound k within in
    elim (slice_get_cases (rows_for t (child n k)).kept (8 * n.number + k)).1 [
      | inl at ↦ at.2 ∙ sym (entry_in-by_row t (child n k) row fresh at.0 at.2)
      | inr past ↦ absurd (omega (arith, row.kept, past.0))
    ]

-- what is due is of a version that an edit can have
pub due_version : {S : Type 0} (t : Table S) (n : Node) (version : ℕ) → IsSound t → delivery_in t n version ≡ Installed → version ≤ 16777215
due_version t n version sound due =
    let current = current_of_installed t n version due in
    let row = IsRowOf-whole t n sound current.0 in
    omega (arith, row.edit, touched_in-inside t n (node_of_whole t n current.0), current.1)

-- the summary of a fresh node is that in its row
pub entry_of_row : {S : Type 0} (t : Table S) (n : Node) (s : S) → IsSound t → fresh_in t n ≡ true → slice_get (rows_for t n).kept n.number ≡ Some s → entry_in t n ≡ Some s
entry_of_row t n s sound fresh is = entry_in-by_row t n (IsRowOf-whole t n sound (whole_of_fresh t n fresh)) fresh s is
