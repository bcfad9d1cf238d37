-- What summaries that are kept for nodes side by side make of a table.
use Rattle.std.proofs.Common.{◌≡◌, ℕ, ◌+◌, ◌-◌, ◌<◌, ◌≤◌, true, false, ◌&&◌, Some, List, length, get_or, nat_eq, nat_le, nat_lt, slice_get, refl, subst, sym, ap, ◌∙◌, inl, inr, arith}
use Rattle.std.proofs.lemmas.Bool.{cases_Bool, cases_lt, cond-true, cond_both, eq-eqb, eqb-true}
use Rattle.std.proofs.lemmas.List.{get_or_past}
use Rattle.std.proofs.lemmas.Option.{get_or_from_slice_get, slice_get-get_or, slice_get_within}
use Rattle.lv_geometry.specs.declared.levels.Levels.{Levels}
use Rattle.lv_geometry.specs.declared.nodes.Node.{Node}
use Rattle.lv_geometry.specs.Levels.{thing_at}
use Rattle.lv_geometry.specs.Nodes.{is_node}
use Rattle.lv_geometry.proofs.NodeLaws.{at_each_level, level_of_node, node_of_level}
use Rattle.lv_summary.specs.Inner.{IsLevel, IsSound, KeepsRows, LevelState, table_of}
use Rattle.lv_summary.specs.Changes.{KeepsRun, is_in_run}
use Rattle.lv_summary.specs.Table.{Rows, Table, blocks_in, kept_in, touched_in}
use Rattle.lv_summary.proofs.Changes.{HasRowsChanged, IsSound-by_rows}
use Rattle.lv_summary.proofs.LevelLaws.{kept_at, kept_by, kept_by-some, touched_at}
use Rattle.lv_summary.proofs.NodeRows.{blocks_in-rows, kept_in-inside, kept_in-outside, rows_at, touched_in-inside, touched_in-outside}

-- the rows of a level of six, as a table and as a thing
pub rows_at-thing : {S : Type 0} (size : ℕ) (of : Levels (LevelState S)) (level : ℕ) → 1 ≤ level → level ≤ 6 → rows_at (table_of size of) level ≡ (thing_at of level).rows
rows_at-thing size of level low high = at_each_level (λ level. rows_at (table_of size of) level ≡ (thing_at of level).rows) refl refl refl refl refl refl level low high

-- summaries that are kept in the rows of a level of six are kept in those of the table
pub KeepsRows-thing : {S : Type 0} (size : ℕ) (of : Levels (LevelState S)) (level : ℕ) (at new : LevelState S) (first : ℕ) (summaries : List S) → 1 ≤ level → level ≤ 6 → at ≡ thing_at of level → KeepsRows at.rows new.rows first summaries → KeepsRows (rows_at (table_of size of) level) new.rows first summaries
KeepsRows-thing size of level at new first summaries low high is keeps =
    subst (λ rows. KeepsRows rows new.rows first summaries) (ap (λ at. at.rows) is ∙ sym (rows_at-thing size of level low high)) keeps

-- a list with items side by side reads elsewhere as before
get_or-others : (old new : List ℕ) (k : ℕ) → length new ≡ length old → slice_get new k ≡ slice_get old k → get_or new k 0 ≡ get_or old k 0
get_or-others old new k long same =
    elim (cases_lt k (length old)) [
      | inl inside ↦ get_or_from_slice_get new k (get_or old k 0) 0 (same ∙ slice_get-get_or old k 0 inside)
      | inr past ↦ get_or_past new k 0 (omega arith) ∙ sym (get_or_past old k 0 past)
    ]

-- summaries that are kept side by side keep a level as it must be
IsLevel-run : {S : Type 0} (blocks level : ℕ) (old new : Rows S) (first : ℕ) (summaries : List S) → KeepsRows old new first summaries → IsLevel blocks level old → IsLevel blocks level new
IsLevel-run blocks level old new first summaries keeps h =
    let long : length new.touched ≡ length old.touched = ap length keeps.touched in
    record {
      stamps = keeps.stamps.long ∙ h.stamps ∙ sym long;
      kept = keeps.kept.long ∙ h.kept ∙ sym long;
      covers = rw long h.covers;
      edits = rw keeps.touched h.edits;
    }

-- one level of a table has other rows, with summaries that are kept side by side
module _ {S : Type 0} (old new : Table S) (level first : ℕ) (rows : Rows S) (summaries : List S) (sound : IsSound old) (low : 1 ≤ level) (high : level ≤ 6) (changed : HasRowsChanged old new level (λ before. rows)) (keeps : KeepsRows (rows_at old level) rows first summaries) where
  -- the rows of the level
  rows_there : rows_at new level ≡ rows
  rows_there = changed level low high ∙ cond-true (nat_eq level level) _ _ (eq-eqb level level refl)

  -- no edit of a row changes
  touched_same : (at : ℕ) → 1 ≤ at → at ≤ 6 → (rows_at new at).touched ≡ (rows_at old at).touched
  touched_same at one six =
      ap (λ (r : Rows S). r.touched) (changed at one six)
      ∙ cond_both (nat_eq at level) _ _ (λ (r : Rows S). r.touched ≡ (rows_at old at).touched)
      (λ same. keeps.touched ∙ ap (λ level. (rows_at old level).touched) (sym (eqb-true at level same)))
      (λ other. refl)

  -- nor how many blocks there are
  blocks_same : blocks_in new ≡ blocks_in old
  blocks_same = blocks_in-rows new ∙ ap length (touched_same 1 (omega arith) (omega arith)) ∙ sym (blocks_in-rows old)

  -- the table stays sound
  pub IsSound-run : new.size ≡ old.size → IsSound new
  IsSound-run size =
      IsSound-by_rows new (blocks_in old) blocks_same sound.few (omega (arith, sound.size))
      (λ at one six. rw (changed at one six) (
      cond_both (nat_eq at level) _ _ (IsLevel (blocks_in old) at)
      (λ same. rw (eqb-true at level same) (IsLevel-run (blocks_in old) level (rows_at old level) rows first summaries keeps (sound.levels level low high)))
      (λ other. sound.levels at one six)))

  -- no node is touched
  run_touched : (n : Node) → touched_in new n ≡ touched_in old n
  run_touched n =
      elim (cases_Bool (is_node n)) [
        | inl member ↦
            let is = level_of_node n member in
            touched_in-inside new n member ∙ ap (λ edits. get_or edits n.number 0) (touched_same n.level is.0 is.1) ∙ sym (touched_in-inside old n member)
        | inr stranger ↦ touched_in-outside new n stranger ∙ sym (touched_in-outside old n stranger)
      ]

  -- each summary is kept at its node's touched number
  run_kept : (k : ℕ) (s : S) → slice_get summaries k ≡ Some s → kept_in new (record { level = level; number = first + k }) ≡ Some (touched_in old (record { level = level; number = first + k }), s)
  run_kept k s is =
      let n : Node = record { level = level; number = first + k } in
      let member : is_node n ≡ true = node_of_level n low high in
      let small : k < length summaries = slice_get_within summaries k s is in
      let edit : ℕ = touched_at (rows_at old level) (first + k) in
      let stamp : get_or rows.stamps (first + k) 0 ≡ edit + 1 = get_or_from_slice_get rows.stamps (first + k) (edit + 1) 0 (keeps.stamps.item_is k small) in
      let back : edit + 1 - 1 ≡ edit = omega arith in
      kept_in-inside new n member
      ∙ ap (λ r. kept_at r (first + k)) rows_there
      ∙ ap (λ stamp. kept_by stamp (slice_get rows.kept (first + k))) stamp
      ∙ ap (kept_by (edit + 1)) (keeps.kept.item_is k small ∙ is)
      ∙ kept_by-some (edit + 1) s (omega arith)
      ∙ ap (λ v. Some (v, s)) back
      ∙ ap (λ v. Some (v, s)) (sym (touched_in-inside old n member))

  -- another number of the level is none of those of the run
  none_of_run : (n : Node) → is_in_run level first (length summaries) n ≡ false → nat_eq n.level level ≡ true → (nat_le first n.number && nat_lt n.number (first + length summaries)) ≡ false
  none_of_run n outside same = sym (ap (λ b. b && nat_le first n.number && nat_lt n.number (first + length summaries)) same) ∙ outside

  -- what is kept for the other nodes is as before
  run_others_kept : (n : Node) → is_in_run level first (length summaries) n ≡ false → kept_in new n ≡ kept_in old n
  run_others_kept n outside =
      elim (cases_Bool (is_node n)) [
        | inl member ↦
            let is = level_of_node n member in
            kept_in-inside new n member
            ∙ ap (λ r. kept_at r n.number) (changed n.level is.0 is.1)
            ∙ cond_both (nat_eq n.level level) _ _ (λ (r : Rows S). kept_at r n.number ≡ kept_at (rows_at old n.level) n.number)
            (λ same.
            let none = none_of_run n outside same in
            ap (λ stamp. kept_by stamp (slice_get rows.kept n.number)) (get_or-others (rows_at old level).stamps rows.stamps n.number keeps.stamps.long (keeps.stamps.others n.number none))
            ∙ ap (kept_by (get_or (rows_at old level).stamps n.number 0)) (keeps.kept.others n.number none)
            ∙ ap (λ level. kept_at (rows_at old level) n.number) (sym (eqb-true n.level level same)))
            (λ other. refl)
            ∙ sym (kept_in-inside old n member)
        | inr stranger ↦ kept_in-outside new n stranger ∙ sym (kept_in-outside old n stranger)
      ]

  -- so the summaries are kept for those nodes, and nothing else has changed
  pub KeepsRun-by_rows : new.size ≡ old.size → KeepsRun old new level first summaries
  KeepsRun-by_rows size =
      record {
        size = size;
        blocks = blocks_same;
        touched = run_touched;
        kept = run_kept;
        others_kept = run_others_kept;
      }
