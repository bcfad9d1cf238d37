-- What a table says of a node, by the rows of its level.
use Rattle.std.proofs.Common.{◌≡◌, ℕ, ◌+◌, ◌-◌, ◌*◌, ◌/◌, ◌^◌, ◌<◌, ◌≤◌, Bool, true, false, ◌&&◌, cond, Some, None, length, get_or, nat_eq, slice_get, option_map, refl, sym, ap, ◌∙◌, inl, inr, arith}
use Rattle.std.specs.List.{slice_index_or}
use Rattle.std.proofs.lemmas.Bool.{and_parts, cases_eq, cases_lt, cond-false, cond-true, eq-eqb, eqb-true, leb-true, ne_eqb}
use Rattle.std.proofs.lemmas.List.{get_or_past}
use Rattle.std.proofs.lemmas.List.Elements.{All-get_or}
use Rattle.std.proofs.lemmas.Nat.{div_below}
use Rattle.lv_geometry.specs.declared.nodes.Node.{Node}
use Rattle.lv_geometry.specs.Nodes.{is_below, is_node}
use Rattle.lv_geometry.proofs.NodeLaws.{level_of_node, number_below, some_width}
use Rattle.lv_geometry.proofs.Ranges.{there_is}
use Rattle.lv_summary.specs.Inner.{IsLevelOf, IsRowOf, IsSound}
use Rattle.lv_summary.specs.Table.{Rows, Table, blocks_in, entry_in, fresh_in, has_version, kept_in, no_rows, rows_for, touched_in, whole_in}
use Rattle.lv_summary.proofs.TableLaws.{node_of_whole}
use Rattle.lv_summary.proofs.LevelLaws.{kept_at, kept_by, kept_by-none, kept_by-some, touched_at}

-- the rows of a level
abbrev pub rows_at : {S : Type 0} → Table S → ℕ → Rows S
rows_at t level = slice_index_or t.levels (level - 1) no_rows

-- a choice by two tests, if the first passes, is by the second
pub cond-and_true : {A : Type 0} (a b : Bool) (x y : A) → a ≡ true → cond (a && b) x y ≡ cond b x y
cond-and_true a b x y passes = rw passes

-- a choice by two tests, if the first fails
pub cond-and_false : {A : Type 0} (a b : Bool) (x y : A) → a ≡ false → cond (a && b) x y ≡ y
cond-and_false a b x y fails = rw fails

-- the edit that touched a node of the table is that of its row
pub touched_in-inside : {S : Type 0} (t : Table S) (n : Node) → is_node n ≡ true → touched_in t n ≡ touched_at (rows_for t n) n.number
unfolding touched_in
touched_in-inside t n inside = cond-true (is_node n) _ _ inside

-- no edit touched a node outside the table
pub touched_in-outside : {S : Type 0} (t : Table S) (n : Node) → is_node n ≡ false → touched_in t n ≡ 0
unfolding touched_in
touched_in-outside t n outside = cond-false (is_node n) _ _ outside

-- what is kept for a node of the table is what its row says
pub kept_in-inside : {S : Type 0} (t : Table S) (n : Node) → is_node n ≡ true → kept_in t n ≡ kept_at (rows_for t n) n.number
unfolding kept_in
kept_in-inside t n inside = cond-and_true (is_node n) _ _ _ inside

-- nothing is kept for a node outside the table
pub kept_in-outside : {S : Type 0} (t : Table S) (n : Node) → is_node n ≡ false → kept_in t n ≡ None
unfolding kept_in
kept_in-outside t n outside = cond-and_false (is_node n) _ _ _ outside

-- there are as many blocks as rows of the first level
pub blocks_in-rows : {S : Type 0} (t : Table S) → blocks_in t ≡ length (rows_at t 1).touched
unfolding blocks_in
blocks_in-rows t = refl

-- each index of the blocks has its row on each level
pub row_of_index : {S : Type 0} (t : Table S) (i level : ℕ) → IsSound t → i / 8 < blocks_in t → 1 ≤ level → level ≤ 6 → i / 8 ^ level < length (rows_at t level).touched
row_of_index t i level sound inside low high =
    let covers = (sound.levels level low high).covers in
    let below : i < 8 * blocks_in t = omega arith in
    div_below i (8 ^ level) (length (rows_at t level).touched) (some_width level) (omega arith)

-- the level of a node that is whole is one of the six
pub levels_of_whole : {S : Type 0} (t : Table S) (n : Node) → whole_in t n ≡ true → (1 ≤ n.level) × (n.level ≤ 6)
levels_of_whole t n whole = level_of_node n (node_of_whole t n whole)

-- a node that is whole has its row
pub IsRowOf-whole : {S : Type 0} (t : Table S) (n : Node) → IsSound t → whole_in t n ≡ true → IsRowOf t n (rows_for t n)
IsRowOf-whole t n sound whole =
    let level = level_of_node n (node_of_whole t n whole) in
    let even = sound.levels n.level level.0 level.1 in
    let below : (n.number + 1) * 8 ^ n.level ≤ t.size = leb-true ((n.number + 1) * 8 ^ n.level) t.size (and_parts (is_node n) (is_below n t.size) whole).1 in
    let inside : n.number < length (rows_for t n).touched = number_below n.number (length (rows_for t n).touched) (8 ^ n.level) t.size (some_width n.level) below (omega (arith, sound.size, even.covers)) in
    record {
      whole = whole;
      level = refl;
      touched = omega arith;
      stamps = omega (arith, even.stamps);
      kept = omega (arith, even.kept);
      edit = All-get_or (λ edit. edit ≤ 16777215) (rows_for t n).touched n.number 0 (omega arith) even.edits;
    }

-- a row with a stamp has a summary
inside_by_stamp : {S : Type 0} (rows : Rows S) (k : ℕ) → 0 < get_or rows.stamps k 0 → length rows.kept ≡ length rows.stamps → k < length rows.kept
inside_by_stamp rows k some even =
    elim (cases_lt k (length rows.kept)) [
      | inl inside ↦ inside
      | inr past ↦ absurd (omega (arith, get_or_past rows.stamps k 0 (omega arith)))
    ]

-- two stamps are equal if the versions are
same_stamp : (stamp version : ℕ) → 0 < stamp → nat_eq (stamp - 1) version ≡ nat_eq stamp (version + 1)
same_stamp stamp version some =
    elim (cases_eq stamp (version + 1)) [
      | inl same ↦ eq-eqb (stamp - 1) version (omega arith) ∙ sym (eq-eqb stamp (version + 1) same)
      | inr other ↦ ne_eqb (stamp - 1) version (λ same. other (omega arith)) ∙ sym (ne_eqb stamp (version + 1) other)
    ]

-- what is kept has a version if its stamp is one more
has_version-kept_by : {S : Type 0} (version stamp : ℕ) (s : S) → has_version version (kept_by stamp (Some s)) ≡ nat_eq stamp (version + 1)
has_version-kept_by version stamp s =
    elim (cases_lt 0 stamp) [
      | inl some ↦ ap (has_version version) (kept_by-some stamp s some) ∙ same_stamp stamp version some
      | inr none ↦ ap (has_version version) (kept_by-none stamp (Some s) (omega arith)) ∙ sym (ne_eqb stamp (version + 1) (omega arith))
    ]

-- what is kept for a node that is whole is the summary in its row, by its stamp
kept_in-by_row : {S : Type 0} (t : Table S) (n : Node) → IsRowOf t n (rows_for t n) → (s : S) → slice_get (rows_for t n).kept n.number ≡ Some s → kept_in t n ≡ kept_by (get_or (rows_for t n).stamps n.number 0) (Some s)
kept_in-by_row t n row s is =
    kept_in-inside t n (node_of_whole t n row.whole) ∙ ap (kept_by (get_or (rows_for t n).stamps n.number 0)) is

-- a node that is whole is fresh if the stamp of its row is one more than the edit that touched it
pub fresh_in-by_row : {S : Type 0} (t : Table S) (n : Node) → IsRowOf t n (rows_for t n) → fresh_in t n ≡ nat_eq (get_or (rows_for t n).stamps n.number 0) (get_or (rows_for t n).touched n.number 0 + 1)
fresh_in-by_row t n row =
    let kept = there_is (rows_for t n).kept n.number row.kept in
    ap (λ whole. whole && has_version (touched_in t n) (kept_in t n)) row.whole
    ∙ ap (has_version (touched_in t n)) (kept_in-by_row t n row kept.0 kept.1)
    ∙ has_version-kept_by (touched_in t n) _ kept.0
    ∙ ap (λ edit. nat_eq (get_or (rows_for t n).stamps n.number 0) (edit + 1)) (touched_in-inside t n (node_of_whole t n row.whole))

-- the summary of a fresh node is that in its row
pub entry_in-by_row : {S : Type 0} (t : Table S) (n : Node) → IsRowOf t n (rows_for t n) → fresh_in t n ≡ true → (s : S) → slice_get (rows_for t n).kept n.number ≡ Some s → entry_in t n ≡ Some s
entry_in-by_row t n row fresh s is =
    let stamp = get_or (rows_for t n).stamps n.number 0 in
    let current : stamp ≡ get_or (rows_for t n).touched n.number 0 + 1 = eqb-true _ _ (sym (fresh_in-by_row t n row) ∙ fresh) in
    cond-true (fresh_in t n) _ _ fresh
    ∙ ap (option_map (λ kept. kept.1)) (kept_in-by_row t n row s is ∙ kept_by-some stamp s (omega arith))

-- a node that is not fresh has no summary
pub entry_in-stale : {S : Type 0} (t : Table S) (n : Node) → fresh_in t n ≡ false → entry_in t n ≡ None
entry_in-stale t n stale = cond-false (fresh_in t n) _ _ stale

-- there are few enough rows of the first level to be counted in 32 bits
pub rows_fit : {S : Type 0} {t : Table S} → IsSound t → length (rows_at t 1).touched ≤ 131071
rows_fit {S} {t} sound = omega (arith, blocks_in-rows t, sound.few)

-- whether a node is fresh, by rows that are known to be those of its level
pub fresh_in-rows : {S : Type 0} (t : Table S) (n : Node) (rows : Rows S) → IsRowOf t n rows → fresh_in t n ≡ nat_eq (get_or rows.stamps n.number 0) (get_or rows.touched n.number 0 + 1)
fresh_in-rows t n rows row =
    fresh_in-by_row t n (rw row.level at row) ∙ ap (λ r. nat_eq (get_or r.stamps n.number 0) (get_or r.touched n.number 0 + 1)) (sym row.level)

-- the summary of a fresh node is that in a row that is known to be its own
pub entry_in-rows : {S : Type 0} (t : Table S) (n : Node) (rows : Rows S) → IsRowOf t n rows → fresh_in t n ≡ true → (s : S) → slice_get rows.kept n.number ≡ Some s → entry_in t n ≡ Some s
entry_in-rows t n rows row fresh s is = entry_in-by_row t n (rw row.level at row) fresh s (rw row.level at is)

-- nothing is kept for a node whose stamp is 0
pub version-none : {S : Type 0} (t : Table S) (n : Node) (rows : Rows S) → IsLevelOf t n rows → get_or rows.stamps n.number 0 ≡ 0 → option_map (λ kept. kept.0) (kept_in t n) ≡ None
version-none t n rows of none =
    ap (option_map (λ kept. kept.0)) (kept_in-inside t n of.member ∙ kept_by-none _ _ (ap (λ r. get_or r.stamps n.number 0) (sym of.level) ∙ none))

-- another stamp gives the version of what is kept
pub version-some : {S : Type 0} (t : Table S) (n : Node) (rows : Rows S) → IsLevelOf t n rows → 0 < get_or rows.stamps n.number 0 → option_map (λ kept. kept.0) (kept_in t n) ≡ Some (get_or rows.stamps n.number 0 - 1)
version-some t n rows of some =
    let level = level_of_node n of.member in
    let even = of.sound.levels n.level level.0 level.1 in
    let stamp : get_or rows.stamps n.number 0 ≡ get_or (rows_for t n).stamps n.number 0 = ap (λ r. get_or r.stamps n.number 0) of.level in
    let kept = there_is (rows_for t n).kept n.number (inside_by_stamp (rows_for t n) n.number (omega arith) (even.kept ∙ sym even.stamps)) in
    ap (option_map (λ kept. kept.0)) (kept_in-inside t n of.member ∙ ap (kept_by (get_or (rows_for t n).stamps n.number 0)) kept.1 ∙ kept_by-some _ kept.0 (omega arith))
    ∙ ap (λ k. Some (k - 1)) (sym stamp)
