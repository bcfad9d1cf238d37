-- What an edit, or a summary that is kept, makes of a table.
use Rattle.std.proofs.Common.{◌≡◌, ℕ, ◌*◌, ◌/◌, ◌^◌, ◌<◌, ◌≤◌, true, false, ◌&&◌, cond, if◌then◌else◌, Option, Some, length, get_or, nat_eq, nat_le, refl, sym, ap, ◌∙◌, inl, inr, arith}
use Rattle.std.proofs.lemmas.Bool.{cases_Bool, cond_both, eqb-true, ne_eqb, true≢false}
use Rattle.std.proofs.lemmas.List.{length-set}
use Rattle.lv_geometry.specs.declared.levels.Levels.{Levels}
use Rattle.lv_geometry.specs.declared.nodes.Node.{Node}
use Rattle.lv_geometry.specs.Levels.{thing_at, with_thing}
use Rattle.lv_geometry.specs.Nodes.{covers, is_node, same_node}
use Rattle.lv_geometry.proofs.NodeLaws.{at_each_level, level_of_node}
use Rattle.lv_summary.specs.Inner.{IsLevel, IsSound, LevelState, table_of, with_kept, with_touch}
use Rattle.lv_summary.specs.Changes.{Keeps, Touches}
use Rattle.lv_summary.specs.Table.{Rows, Table, blocks_in, kept_in, rows_for, touched_in, whole_in}
use Rattle.lv_summary.proofs.LevelLaws.{IsLevel-with_kept, IsLevel-with_touch, kept_at, kept_at-with_kept, touched_at, touched_at-with_touch}
use Rattle.lv_summary.proofs.TableLaws.{node_of_whole}
use Rattle.lv_summary.proofs.NodeRows.{IsRowOf-whole, blocks_in-rows, cond-and_false, cond-and_true, kept_in-inside, kept_in-outside, row_of_index, rows_at, touched_in-inside, touched_in-outside}

-- a table is sound by its rows
pub IsSound-by_rows : {S : Type 0} (t : Table S) (blocks : ℕ) → blocks_in t ≡ blocks → blocks ≤ 131071 → t.size ≤ 8 * blocks → ((level : ℕ) → 1 ≤ level → level ≤ 6 → IsLevel blocks level (rows_at t level)) → IsSound t
IsSound-by_rows t blocks is few size levels =
    record {
      levels = λ level low high. rw is (levels level low high);
      few = omega arith;
      size = omega arith;
    }

-- the row of an index was touched on every level
abbrev pub HasRowsTouched : {S : Type 0} → Table S → Table S → ℕ → ℕ → Type 0
HasRowsTouched old new i edit = (level : ℕ) → 1 ≤ level → level ≤ 6 → rows_at new level ≡ with_touch (rows_at old level) (i / 8 ^ level) edit

-- an edit that touches a table leaves its blocks
blocks_in-touched : {S : Type 0} (old new : Table S) (i edit : ℕ) → HasRowsTouched old new i edit → blocks_in new ≡ blocks_in old
blocks_in-touched old new i edit rows =
    blocks_in-rows new ∙ ap (λ r. length r.touched) (rows 1 (omega arith) (omega arith)) ∙ length-set (rows_at old 1).touched (i / 8) edit ∙ sym (blocks_in-rows old)

-- a sound table stays so when an edit touches it
pub IsSound-touched : {S : Type 0} {old new : Table S} → IsSound old → new.size ≡ old.size → (i edit : ℕ) → edit ≤ 16777215 → HasRowsTouched old new i edit → IsSound new
IsSound-touched {S} {old} {new} sound size i edit possible rows =
    IsSound-by_rows new (blocks_in old) (blocks_in-touched old new i edit rows) sound.few (omega (arith, sound.size))
    (λ level low high. rw (rows level low high) (IsLevel-with_touch (blocks_in old) level (rows_at old level) (i / 8 ^ level) edit possible (sound.levels level low high)))

-- touching the row of an index on every level touches the nodes that have the index
pub Touches-by_rows : {S : Type 0} {old new : Table S} → IsSound old → new.size ≡ old.size → (i edit : ℕ) → i / 8 < blocks_in old → HasRowsTouched old new i edit → Touches old new i edit
Touches-by_rows {S} {old} {new} sound size i edit inside rows =
    record {
      size = size;
      blocks = blocks_in-touched old new i edit rows;
      touched = λ n. elim (cases_Bool (is_node n)) [
        | inl member ↦
            let level = level_of_node n member in
            touched_in-inside new n member
            ∙ ap (λ r. touched_at r n.number) (rows n.level level.0 level.1)
            ∙ touched_at-with_touch (rows_for old n) (i / 8 ^ n.level) edit n.number (row_of_index old i n.level sound inside level.0 level.1)
            ∙ ap (cond (covers n i) edit) (sym (touched_in-inside old n member))
            ∙ sym (cond-and_true (is_node n) (covers n i) edit (touched_in old n) member)
        | inr stranger ↦
            touched_in-outside new n stranger ∙ sym (touched_in-outside old n stranger) ∙ sym (cond-and_false (is_node n) (covers n i) edit (touched_in old n) stranger)
      ];
      kept = λ n. elim (cases_Bool (is_node n)) [
        | inl member ↦
            let level = level_of_node n member in
            kept_in-inside new n member ∙ ap (λ r. kept_at r n.number) (rows n.level level.0 level.1) ∙ sym (kept_in-inside old n member)
        | inr stranger ↦ kept_in-outside new n stranger ∙ sym (kept_in-outside old n stranger)
      ];
    }

-- nodes of one level are both of the table, or both not
same_membership : (m n : Node) → m.level ≡ n.level → is_node m ≡ is_node n
same_membership m n same = ap (λ level. nat_le 1 level && nat_le level 6) same

-- the rows of every level after those of one level were changed
abbrev pub HasRowsChanged : {S : Type 0} → Table S → Table S → ℕ → (Rows S → Rows S) → Type 0
HasRowsChanged old new k change =
    (level : ℕ) → 1 ≤ level → level ≤ 6 → rows_at new level ≡ if nat_eq level k then change (rows_at old k) else rows_at old level

-- the rows of every level after a summary was put into the row of a node
abbrev pub HasRowsKept : {S : Type 0} → Table S → Table S → Node → ℕ → ℕ → S → Type 0
HasRowsKept old new n k version s = HasRowsChanged old new k (λ rows. with_kept rows n.number version s)

-- a table of six levels, with other rows at one of these
pub HasRowsChanged-one : {S : Type 0} (size : ℕ) (of : Levels (LevelState S)) (k : ℕ) (changed : LevelState S) (change : Rows S → Rows S) → 1 ≤ k → k ≤ 6 → changed.rows ≡ change (thing_at of k).rows → HasRowsChanged (table_of size of) (table_of size (with_thing of k changed)) k change
HasRowsChanged-one size of k changed change low high is =
    at_each_level (λ k. changed.rows ≡ change (thing_at of k).rows → HasRowsChanged (table_of size of) (table_of size (with_thing of k changed)) k change)
    (λ is. at_each_level _ is refl refl refl refl refl)
    (λ is. at_each_level _ refl is refl refl refl refl)
    (λ is. at_each_level _ refl refl is refl refl refl)
    (λ is. at_each_level _ refl refl refl is refl refl)
    (λ is. at_each_level _ refl refl refl refl is refl)
    (λ is. at_each_level _ refl refl refl refl refl is)
    k low high is

-- a change of one level that leaves the edits of its rows
module _ {S : Type 0} (change : Rows S → Rows S) (same_edits : (rows : Rows S) → (change rows).touched ≡ rows.touched) where
  -- changes the edit of no row
  touched_at-changed : (old : Table S) (n m : Node) → touched_at (if nat_eq m.level n.level then change (rows_for old n) else rows_for old m) m.number ≡ touched_at (rows_for old m) m.number
  touched_at-changed old n m =
      cond_both (nat_eq m.level n.level) _ _ (λ rows. touched_at rows m.number ≡ touched_at (rows_for old m) m.number)
      (λ same.
      ap (λ edits. get_or edits m.number 0) (same_edits (rows_for old n))
      ∙ ap (λ level. touched_at (rows_at old level) m.number) (sym (eqb-true m.level n.level same)))
      (λ other. refl)

  -- leaves the blocks of a table
  blocks_in-changed : (old new : Table S) (k : ℕ) → HasRowsChanged old new k change → blocks_in new ≡ blocks_in old
  blocks_in-changed old new k rows =
      blocks_in-rows new
      ∙ ap (λ r. length r.touched) (rows 1 (omega arith) (omega arith))
      ∙ cond_both (nat_eq 1 k) _ _ (λ (r : Rows S). length r.touched ≡ length (rows_at old 1).touched)
      (λ same. ap length (same_edits (rows_at old k)) ∙ ap (λ level. length (rows_at old level).touched) (sym (eqb-true 1 k same)))
      (λ other. refl)
      ∙ sym (blocks_in-rows old)

  -- keeps a sound table so, if it keeps each level as it must be
  IsSound-changed : ((blocks level : ℕ) (rows : Rows S) → IsLevel blocks level rows → IsLevel blocks level (change rows)) → (old new : Table S) → IsSound old → new.size ≡ old.size → (k : ℕ) → HasRowsChanged old new k change → IsSound new
  IsSound-changed keeps old new sound size k rows =
      IsSound-by_rows new (blocks_in old) (blocks_in-changed old new k rows) sound.few (omega (arith, sound.size))
      (λ level low high. rw (rows level low high) (
      cond_both (nat_eq level k) _ _ (IsLevel (blocks_in old) level)
      (λ same. rw (← eqb-true level k same) (keeps (blocks_in old) level (rows_at old level) (sound.levels level low high)))
      (λ other. sound.levels level low high)))

  -- and touches no node
  touched_in-changed : (old new : Table S) (n : Node) → HasRowsChanged old new n.level change → (m : Node) → touched_in new m ≡ touched_in old m
  touched_in-changed old new n rows m =
      elim (cases_Bool (is_node m)) [
        | inl member ↦
            let level = level_of_node m member in
            touched_in-inside new m member ∙ ap (λ r. touched_at r m.number) (rows m.level level.0 level.1) ∙ touched_at-changed old n m ∙ sym (touched_in-inside old m member)
        | inr stranger ↦ touched_in-outside new m stranger ∙ sym (touched_in-outside old m stranger)
      ]

-- what rows say of a number, if a change of one level changes that for one node only
read-changed : {S A : Type 0} (read : Rows S → ℕ → A) (change : Rows S → Rows S) (other : A → A) (old : Table S) (n m : Node)
    → ((k : ℕ) → read (change (rows_for old n)) k ≡ if nat_eq k n.number then other (read (rows_for old n) k) else read (rows_for old n) k)
    → read (if nat_eq m.level n.level then change (rows_for old n) else rows_for old m) m.number ≡ if same_node m n then other (read (rows_for old m) m.number) else read (rows_for old m) m.number
read-changed read change other old n m is =
    cond_both (nat_eq m.level n.level) _ _ (λ rows. read rows m.number ≡ cond (same_node m n) (other (read (rows_for old m) m.number)) (read (rows_for old m) m.number))
    (λ same.
    is m.number
    ∙ ap (λ level. cond (nat_eq m.number n.number) (other (read (rows_at old level) m.number)) (read (rows_at old level) m.number)) (sym (eqb-true m.level n.level same))
    ∙ sym (cond-and_true (nat_eq m.level n.level) _ _ _ same))
    (λ apart. sym (cond-and_false (nat_eq m.level n.level) _ _ _ apart))

-- a node that is none of the table is another than one of it
stranger_is_other : (n m : Node) → is_node n ≡ true → is_node m ≡ false → nat_eq m.level n.level ≡ false
stranger_is_other n m member stranger = ne_eqb m.level n.level (λ same. true≢false (sym member ∙ sym (same_membership m n same) ∙ stranger))

-- what is kept for each node, if a change of the rows of a node's level changes that in its row only
kept_in-changed : {S : Type 0} (old new : Table S) (n : Node) (change : Rows S → Rows S) (other : Option (ℕ × S) → Option (ℕ × S)) → is_node n ≡ true → HasRowsChanged old new n.level change
    → ((k : ℕ) → kept_at (change (rows_for old n)) k ≡ if nat_eq k n.number then other (kept_at (rows_for old n) k) else kept_at (rows_for old n) k)
    → (m : Node) → kept_in new m ≡ if same_node m n then other (kept_in old m) else kept_in old m
kept_in-changed old new n change other node rows is m =
    elim (cases_Bool (is_node m)) [
      | inl member ↦
          let level = level_of_node m member in
          kept_in-inside new m member
          ∙ ap (λ r. kept_at r m.number) (rows m.level level.0 level.1)
          ∙ read-changed kept_at change other old n m is
          ∙ ap (λ kept. cond (same_node m n) (other kept) kept) (sym (kept_in-inside old m member))
      | inr stranger ↦
          kept_in-outside new m stranger ∙ sym (kept_in-outside old m stranger) ∙ sym (cond-and_false (nat_eq m.level n.level) _ _ _ (stranger_is_other n m node stranger))
    ]

-- a sound table stays so when a summary is kept
pub IsSound-kept : {S : Type 0} {old new : Table S} → IsSound old → new.size ≡ old.size → (n : Node) (k version : ℕ) (s : S) → HasRowsKept old new n k version s → IsSound new
IsSound-kept {S} {old} {new} sound size n k version s rows =
    IsSound-changed (λ rows. with_kept rows n.number version s) (λ rows. refl) (λ blocks level rows is. IsLevel-with_kept blocks level rows n.number version s is) old new sound size k rows

-- putting a summary into a node's row keeps it for that node only
pub Keeps-at : {S : Type 0} {old new : Table S} → IsSound old → new.size ≡ old.size → (n : Node) (k version : ℕ) (s : S) → whole_in old n ≡ true → n.level ≡ k → HasRowsKept old new n k version s → Keeps old new n version s
Keeps-at {S} {old} {new} sound size n k version s whole at changed =
    let row = IsRowOf-whole old n sound whole in
    let node = node_of_whole old n whole in
    let rows : HasRowsKept old new n n.level version s = λ level low high. rw (← at) at (changed level low high) in
    record {
      size = size;
      blocks = blocks_in-changed (λ rows. with_kept rows n.number version s) (λ rows. refl) old new n.level rows;
      touched = touched_in-changed (λ rows. with_kept rows n.number version s) (λ rows. refl) old new n rows;
      kept = kept_in-changed old new n (λ rows. with_kept rows n.number version s) (λ kept. Some (version, s)) node rows (λ k. kept_at-with_kept (rows_for old n) n.number version s k row.stamps row.kept);
    }
