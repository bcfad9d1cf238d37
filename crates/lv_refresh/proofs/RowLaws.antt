-- What claims say of a node, by the rows of its level.
use Rattle.std.proofs.Common.{◌≡◌, ℕ, ◌+◌, ◌-◌, ◌*◌, ◌/◌, ◌^◌, ◌<◌, ◌≤◌, true, false, ◌&&◌, None, length, get_or, refl, sym, ap, ◌∙◌, inl, inr, arith}
use Rattle.std.specs.List.{slice_index_or}
use Rattle.std.proofs.lemmas.Bool.{and_left, cases_Bool, cond-false, cond-true, leb-true}
use Rattle.std.proofs.lemmas.Grind.{pow_more}
use Rattle.std.proofs.lemmas.Nat.{div_below}
use Rattle.lv_geometry.specs.declared.levels.Levels.{Levels}
use Rattle.lv_geometry.specs.declared.nodes.Node.{Node}
use Rattle.lv_geometry.specs.Levels.{thing_at}
use Rattle.lv_geometry.specs.Nodes.{is_below, is_node}
use Rattle.lv_geometry.proofs.NodeLaws.{at_each_level, level_of_node, number_below, some_width}
use Rattle.lv_refresh.specs.ClaimTable.{ClaimRows, ClaimTable, claim_blocks, claimed_in, is_hinted, no_claims, version_of}
use Rattle.lv_refresh.specs.Inner.{AreClaims, ClaimLevelState, IsClaimLevel, claims_of}
use Rattle.lv_refresh.specs.Marks.{is_marked}

-- the rows of a level
abbrev pub rows_at : ClaimTable → ℕ → ClaimRows
rows_at c level = slice_index_or c.levels (level - 1) no_claims

-- the rows of a level are those of its thing
pub rows_at-thing : (of : Levels ClaimLevelState) (k : ℕ) → 1 ≤ k → k ≤ 6 → rows_at (claims_of of) k ≡ (thing_at of k).rows
rows_at-thing of k low high = at_each_level (λ k. rows_at (claims_of of) k ≡ (thing_at of k).rows) refl refl refl refl refl refl k low high

-- a node of the table was claimed at the version of its row
pub claimed_in-inside : (c : ClaimTable) (n : Node) → is_node n ≡ true → claimed_in c n ≡ version_of (get_or (rows_at c n.level).claimed n.number 0)
unfolding claimed_in
claimed_in-inside c n inside = cond-true (is_node n) _ _ inside

-- no node outside the table was claimed
pub claimed_in-outside : (c : ClaimTable) (n : Node) → is_node n ≡ false → claimed_in c n ≡ None
unfolding claimed_in
claimed_in-outside c n outside = cond-false (is_node n) _ _ outside

-- a node of the table is hinted at if its number is marked
pub is_hinted-inside : (c : ClaimTable) (n : Node) → is_node n ≡ true → is_hinted c n ≡ is_marked (rows_at c n.level).hints n.number
unfolding is_hinted
is_hinted-inside c n inside = ap (λ member. member && is_marked (rows_at c n.level).hints n.number) inside

-- no node outside the table is hinted at
pub is_hinted-outside : (c : ClaimTable) (n : Node) → is_node n ≡ false → is_hinted c n ≡ false
unfolding is_hinted
is_hinted-outside c n outside = and_left (is_node n) _ outside

-- there are as many blocks as rows of the first level
pub claim_blocks-rows : (c : ClaimTable) → claim_blocks c ≡ length (rows_at c 1).claimed
unfolding claim_blocks
claim_blocks-rows c = refl

-- there are few enough blocks to be counted in 32 bits
pub rows_fit : {c : ClaimTable} → AreClaims c → length (rows_at c 1).claimed ≤ 131071
rows_fit {c} claims = omega (arith, claim_blocks-rows c, claims.few)

-- claims are kept as they must be by their rows
pub AreClaims-by_rows : (c : ClaimTable) (blocks : ℕ) → claim_blocks c ≡ blocks → blocks ≤ 131071 → ((level : ℕ) → 1 ≤ level → level ≤ 6 → IsClaimLevel blocks level (rows_at c level)) → AreClaims c
AreClaims-by_rows c blocks is few levels = record { few = omega arith; levels = λ level low high. rw is (levels level low high) }

-- each index of the blocks has its row on each level
pub row_of_index : (c : ClaimTable) (i level : ℕ) → AreClaims c → i / 8 < claim_blocks c → 1 ≤ level → level ≤ 6 → i / 8 ^ level < length (rows_at c level).claimed
row_of_index c i level claims inside low high =
    let covers = (claims.levels level low high).covers in
    let below : i < 8 * claim_blocks c = omega arith in
    div_below i (8 ^ level) (length (rows_at c level).claimed) (some_width level) (omega arith)

-- and its hint
pub hint_of_index : (c : ClaimTable) (i level : ℕ) → AreClaims c → i / 8 < claim_blocks c → 1 ≤ level → level ≤ 6 → i / 8 ^ level < 64 * length (rows_at c level).hints
hint_of_index c i level claims inside low high =
    omega (arith, row_of_index c i level claims inside low high, (claims.levels level low high).hints)

-- a node whose indices are below a size that the rows of its level are enough for has its row
pub row_of_node : (rows : ClaimRows) (n : Node) (size : ℕ) → is_below n size ≡ true → size ≤ length rows.claimed * 8 ^ n.level → n.number < length rows.claimed
row_of_node rows n size below enough =
    number_below n.number (length rows.claimed) (8 ^ n.level) size (some_width n.level) (leb-true ((n.number + 1) * 8 ^ n.level) size below) enough

-- the parent of a node of the blocks has its hint
pub hint_of_parent : (c : ClaimTable) (n : Node) (level : ℕ) → AreClaims c → is_below n (8 * claim_blocks c) ≡ true → n.level ≡ level - 1 → 2 ≤ level → level ≤ 6 → n.number / 8 < 64 * length (rows_at c level).hints
hint_of_parent c n level claims below at low high =
    let kept = claims.levels level (omega arith) high in
    let rows = length (rows_at c level).claimed in
    let width = 8 ^ n.level in
    let next : level ≡ n.level + 1 = omega arith in
    let wide : 8 ^ level ≡ width * 8 = ap (λ l. 8 ^ l) next ∙ pow_more 8 n.level in
    let enough : rows * 8 ^ level ≡ 8 * rows * width = rw wide (omega arith) in
    let inside : n.number < 8 * rows = number_below n.number (8 * rows) width (8 * claim_blocks c) (some_width n.level) (leb-true ((n.number + 1) * width) (8 * claim_blocks c) below) (omega (arith, kept.covers)) in
    omega (arith, kept.hints)

module _ (old new : ClaimTable) where
  -- a table with as many rows and hints as another has as many blocks
  pub claim_blocks-same : ((level : ℕ) → 1 ≤ level → level ≤ 6 → length (rows_at new level).claimed ≡ length (rows_at old level).claimed) → claim_blocks new ≡ claim_blocks old
  claim_blocks-same rows = claim_blocks-rows new ∙ rows 1 (omega arith) (omega arith) ∙ sym (claim_blocks-rows old)

  -- and is kept as it must be, if the other is
  pub AreClaims-same : AreClaims old → ((level : ℕ) → 1 ≤ level → level ≤ 6 → length (rows_at new level).claimed ≡ length (rows_at old level).claimed) → ((level : ℕ) → 1 ≤ level → level ≤ 6 → length (rows_at new level).hints ≡ length (rows_at old level).hints) → AreClaims new
  AreClaims-same claims rows hints =
      AreClaims-by_rows new (claim_blocks old) (claim_blocks-same rows) claims.few (λ level low high.
      let kept = claims.levels level low high in
      record { covers = rw (rows level low high) kept.covers; hints = rw (rows level low high, hints level low high) kept.hints })

  -- a table with the same stamps has the same claims
  pub claimed_in-same : ((level : ℕ) → 1 ≤ level → level ≤ 6 → (rows_at new level).claimed ≡ (rows_at old level).claimed) → (n : Node) → claimed_in new n ≡ claimed_in old n
  claimed_in-same rows n =
      elim (cases_Bool (is_node n)) [
        | inl member ↦
            let level = level_of_node n member in
            claimed_in-inside new n member ∙ ap (λ stamps. version_of (get_or stamps n.number 0)) (rows n.level level.0 level.1) ∙ sym (claimed_in-inside old n member)
        | inr stranger ↦ claimed_in-outside new n stranger ∙ sym (claimed_in-outside old n stranger)
      ]
