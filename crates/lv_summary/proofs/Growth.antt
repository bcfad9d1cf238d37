-- What more rows, another size and no rows at all make of a table.
use Rattle.std.proofs.Common.{◌≡◌, ℕ, ◌+◌, ◌-◌, ◌*◌, ◌^◌, ◌≤◌, None, length, refl, sym, ap, ◌∙◌, inl, inr, arith}
use Rattle.std.proofs.lemmas.Bool.{cases_Bool}
use Rattle.lv_geometry.specs.declared.levels.Levels.{Levels}
use Rattle.lv_geometry.specs.declared.nodes.Node.{Node}
use Rattle.lv_geometry.specs.Levels.{thing_at}
use Rattle.lv_geometry.specs.Nodes.{is_node}
use Rattle.lv_geometry.proofs.NodeLaws.{at_each_level, level_of_node}
use Rattle.lv_summary.specs.Inner.{AreFilled, HaveSameRows, IsSound, LevelState, filled, table_of}
use Rattle.lv_summary.specs.Changes.{AnswersAlike, HasSize}
use Rattle.lv_summary.specs.Table.{Table, blocks_in, kept_in, no_rows, rows_for, touched_in}
use Rattle.lv_summary.proofs.LevelLaws.{IsLevel-empty, IsLevel-filled, kept_at, kept_at-filled, length-lengthened, touched_at, touched_at-filled}
use Rattle.lv_summary.proofs.NodeRows.{blocks_in-rows, kept_in-inside, kept_in-outside, rows_at, touched_in-inside, touched_in-outside}
use Rattle.lv_summary.proofs.Changes.{IsSound-by_rows}

-- every level was filled up, so that there are rows for all indices of so many blocks
abbrev pub HasRowsFilled : {S : Type 0} → Table S → Table S → ℕ → Type 0
HasRowsFilled {S} old new more =
    (level : ℕ) → 1 ≤ level → level ≤ 6 → (n : ℕ) × (blank : S) × (rows_at new level ≡ filled (rows_at old level) n blank) × (8 * more ≤ n * 8 ^ level)

-- the rows of a level of six
rows_at-thing : {S : Type 0} (size : ℕ) (of : Levels (LevelState S)) (level : ℕ) → 1 ≤ level → level ≤ 6 → rows_at (table_of size of) level ≡ (thing_at of level).rows
rows_at-thing size of level low high = at_each_level (λ level. rows_at (table_of size of) level ≡ (thing_at of level).rows) refl refl refl refl refl refl level low high

-- levels with the same rows make the same table
pub table_of-same : {S : Type 0} (size : ℕ) (old new : Levels (LevelState S)) → HaveSameRows old new → table_of size new ≡ table_of size old
table_of-same size old new same =
    let e1 : new.level_1.rows ≡ old.level_1.rows = same 1 (omega arith) (omega arith) in
    let e2 : new.level_2.rows ≡ old.level_2.rows = same 2 (omega arith) (omega arith) in
    let e3 : new.level_3.rows ≡ old.level_3.rows = same 3 (omega arith) (omega arith) in
    let e4 : new.level_4.rows ≡ old.level_4.rows = same 4 (omega arith) (omega arith) in
    let e5 : new.level_5.rows ≡ old.level_5.rows = same 5 (omega arith) (omega arith) in
    let e6 : new.level_6.rows ≡ old.level_6.rows = same 6 (omega arith) (omega arith) in
    cc

-- levels that are filled up to the rows that so many blocks need
pub HasRowsFilled-levels : {S : Type 0} (size : ℕ) (old more new : Levels (LevelState S)) (rows : Levels ℕ) (blocks : ℕ)
    → HaveSameRows old more → AreFilled more new rows → ((level : ℕ) → 1 ≤ level → level ≤ 6 → 8 * blocks ≤ thing_at rows level * 8 ^ level)
    → HasRowsFilled (table_of size old) (table_of size new) blocks
HasRowsFilled-levels size old more new rows blocks same fills covers =
    λ level low high. (
      thing_at rows level,
      (thing_at more level).blank,
      rows_at-thing size new level low high
          ∙ fills level low high
          ∙ ap (λ r. filled r (thing_at rows level) (thing_at more level).blank) (same level low high ∙ sym (rows_at-thing size old level low high)),
      covers level low high,
    )

-- the more of two numbers of blocks have rows
blocks_in-filled : {S : Type 0} (old new : Table S) (more : ℕ) (blank : S) → rows_at new 1 ≡ filled (rows_at old 1) more blank → blocks_in new ≡ blocks_in old + (more - blocks_in old)
blocks_in-filled old new more blank first =
    blocks_in-rows new ∙ ap (λ r. length r.touched) first ∙ length-lengthened (rows_at old 1).touched more 0 ∙ ap (λ b. b + (more - b)) (sym (blocks_in-rows old))

-- no block loses its rows when rows are added
pub blocks_in_more : {S : Type 0} (old new : Table S) (more : ℕ) (blank : S) → rows_at new 1 ≡ filled (rows_at old 1) more blank → blocks_in old ≤ blocks_in new
blocks_in_more old new more blank first = omega (arith, blocks_in-filled old new more blank first)

-- all blocks that were wanted have rows when rows were added
pub blocks_in_enough : {S : Type 0} (old new : Table S) (more : ℕ) (blank : S) → rows_at new 1 ≡ filled (rows_at old 1) more blank → more ≤ blocks_in new
blocks_in_enough old new more blank first = omega (arith, blocks_in-filled old new more blank first)

-- a sound table stays so when rows are added
pub IsSound-filled : {S : Type 0} {old new : Table S} → IsSound old → new.size ≡ old.size → (more : ℕ) (blank : S) → more ≤ 131071 → rows_at new 1 ≡ filled (rows_at old 1) more blank → HasRowsFilled old new more → IsSound new
IsSound-filled {S} {old} {new} sound size more blank few first rows =
    IsSound-by_rows new (blocks_in old + (more - blocks_in old)) (blocks_in-filled old new more blank first) (omega (arith, sound.few)) (omega (arith, sound.size))
    (λ level low high.
    let added = rows level low high in
    rw added.2 (IsLevel-filled (blocks_in old) more level (rows_at old level) added.0 added.1 added.3 (sound.levels level low high)))

-- adding rows changes no answer
pub AnswersAlike-by_rows : {S : Type 0} {old new : Table S} → IsSound old → new.size ≡ old.size → (more : ℕ) → HasRowsFilled old new more → AnswersAlike old new
AnswersAlike-by_rows {S} {old} {new} sound size more rows =
    record {
      size = size;
      touched = λ m. elim (cases_Bool (is_node m)) [
        | inl member ↦
            let level = level_of_node m member in
            let added = rows m.level level.0 level.1 in
            touched_in-inside new m member ∙ ap (λ r. touched_at r m.number) added.2 ∙ touched_at-filled (rows_for old m) added.0 added.1 m.number ∙ sym (touched_in-inside old m member)
        | inr stranger ↦ touched_in-outside new m stranger ∙ sym (touched_in-outside old m stranger)
      ];
      kept = λ m. elim (cases_Bool (is_node m)) [
        | inl member ↦
            let level = level_of_node m member in
            let added = rows m.level level.0 level.1 in
            let even = sound.levels m.level level.0 level.1 in
            kept_in-inside new m member ∙ ap (λ r. kept_at r m.number) added.2 ∙ kept_at-filled (rows_for old m) added.0 added.1 m.number (even.kept ∙ sym even.stamps) ∙ sym (kept_in-inside old m member)
        | inr stranger ↦ kept_in-outside new m stranger ∙ sym (kept_in-outside old m stranger)
      ];
    }

-- a sound table stays so at another size that its rows have room for
pub IsSound-size : {S : Type 0} {t : Table S} → IsSound t → (size : ℕ) → size ≤ 8 * blocks_in t → IsSound (record t { size = size })
IsSound-size {S} {t} sound size room =
    IsSound-by_rows (record t { size = size }) (blocks_in t) (blocks_in-rows (record t { size = size }) ∙ sym (blocks_in-rows t)) sound.few room sound.levels

-- another size changes no row
pub HasSize-by_rows : {S : Type 0} (t : Table S) (size : ℕ) → HasSize t (record t { size = size }) size
HasSize-by_rows t size =
    let sized = record t { size = size } in
    record {
      size_is = refl;
      blocks = blocks_in-rows sized ∙ sym (blocks_in-rows t);
      touched = λ m. elim (cases_Bool (is_node m)) [
        | inl member ↦ touched_in-inside sized m member ∙ sym (touched_in-inside t m member)
        | inr stranger ↦ touched_in-outside sized m stranger ∙ sym (touched_in-outside t m stranger)
      ];
      kept = λ m. elim (cases_Bool (is_node m)) [
        | inl member ↦ kept_in-inside sized m member ∙ sym (kept_in-inside t m member)
        | inr stranger ↦ kept_in-outside sized m stranger ∙ sym (kept_in-outside t m stranger)
      ];
    }

-- a table with no rows has no blocks
pub blocks_in-empty : {S : Type 0} (t : Table S) → ((level : ℕ) → 1 ≤ level → level ≤ 6 → rows_at t level ≡ no_rows) → blocks_in t ≡ 0
blocks_in-empty t rows = blocks_in-rows t ∙ ap (λ r. length r.touched) (rows 1 (omega arith) (omega arith))

-- a table with no rows is sound
pub IsSound-empty : {S : Type 0} {t : Table S} → t.size ≡ 0 → ((level : ℕ) → 1 ≤ level → level ≤ 6 → rows_at t level ≡ no_rows) → IsSound t
IsSound-empty {S} {t} size rows =
    IsSound-by_rows t 0 (blocks_in-empty t rows) (omega arith) (omega arith) (λ level low high. rw (rows level low high) (IsLevel-empty level))

-- no edit touched a node of a table with no rows
pub touched_in-empty : {S : Type 0} (t : Table S) → ((level : ℕ) → 1 ≤ level → level ≤ 6 → rows_at t level ≡ no_rows) → (n : Node) → touched_in t n ≡ 0
touched_in-empty t rows n =
    elim (cases_Bool (is_node n)) [
      | inl member ↦ let level = level_of_node n member in touched_in-inside t n member ∙ ap (λ r. touched_at r n.number) (rows n.level level.0 level.1)
      | inr stranger ↦ touched_in-outside t n stranger
    ]

-- nothing is kept in a table with no rows
pub kept_in-empty : {S : Type 0} (t : Table S) → ((level : ℕ) → 1 ≤ level → level ≤ 6 → rows_at t level ≡ no_rows) → (n : Node) → kept_in t n ≡ None
kept_in-empty t rows n =
    elim (cases_Bool (is_node n)) [
      | inl member ↦ let level = level_of_node n member in kept_in-inside t n member ∙ ap (λ r. kept_at r n.number) (rows n.level level.0 level.1)
      | inr stranger ↦ kept_in-outside t n stranger
    ]
