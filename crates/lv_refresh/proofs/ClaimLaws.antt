-- What claims are when all are forgotten, when their levels get more rows, and when they have none.
use Rattle.std.proofs.Common.{◌≡◌, ℕ, ◌+◌, ◌-◌, ◌*◌, ◌^◌, ◌≤◌, true, None, length, get_or, replicate, refl, sym, ap, ◌∙◌, inl, inr, arith}
use Rattle.std.proofs.lemmas.Bool.{cases_Bool, cases_lt, false≢true}
use Rattle.std.proofs.lemmas.List.{get_or-append_right, get_or-replicate, get_or_append_left, get_or_past, length-append, length-replicate}
use Rattle.lv_geometry.specs.declared.levels.Levels.{Levels}
use Rattle.lv_geometry.specs.declared.nodes.Node.{Node}
use Rattle.lv_geometry.specs.Levels.{thing_at}
use Rattle.lv_geometry.specs.Nodes.{is_below, is_node}
use Rattle.lv_geometry.proofs.NodeLaws.{covers_more, level_of_node}
use Rattle.lv_refresh.specs.ClaimTable.{ClaimRows, ClaimTable, claim_blocks, claimed_in, is_hinted, no_claims, version_of}
use Rattle.lv_refresh.specs.Inner.{AreClaims, AreFilled, ClaimLevelState, FillsClaims, ForgetsClaims, HaveSameRows, claims_of}
use Rattle.lv_refresh.proofs.RowLaws.{AreClaims-by_rows, AreClaims-same, claim_blocks-rows, claim_blocks-same, claimed_in-inside, claimed_in-outside, is_hinted-inside, is_hinted-outside, row_of_node, rows_at, rows_at-thing}

-- a claim that is void everywhere, and a hint at every row
abbrev pub ForgetsAll : ClaimTable → ClaimTable → Type 0
ForgetsAll old new = (level : ℕ) → 1 ≤ level → level ≤ 6 → ForgetsClaims (rows_at old level) (rows_at new level)

module _ (old new : ClaimTable) (forgot : ForgetsAll old new) where
  -- no node is claimed
  pub claimed_in-forgot : (n : Node) → claimed_in new n ≡ None
  claimed_in-forgot n =
      elim (cases_Bool (is_node n)) [
        | inl member ↦
            let level = level_of_node n member in
            claimed_in-inside new n member ∙ ap version_of ((forgot n.level level.0 level.1).claimed n.number)
        | inr stranger ↦ claimed_in-outside new n stranger
      ]

  -- the blocks stay
  pub claim_blocks-forgot : claim_blocks new ≡ claim_blocks old
  claim_blocks-forgot = claim_blocks-same old new (λ level low high. (forgot level low high).rows)

  -- and claims are kept as they must be
  pub AreClaims-forgot : AreClaims old → AreClaims new
  AreClaims-forgot claims = AreClaims-same old new claims (λ level low high. (forgot level low high).rows) (λ level low high. (forgot level low high).room)

  -- each node of the blocks is hinted at
  pub is_hinted-forgot : AreClaims old → (n : Node) → is_node n ≡ true → is_below n (8 * claim_blocks old) ≡ true → is_hinted new n ≡ true
  is_hinted-forgot claims n member below =
      let level = level_of_node n member in
      let kept = claims.levels n.level level.0 level.1 in
      let row = row_of_node (rows_at old n.level) n (8 * claim_blocks old) below kept.covers in
      is_hinted-inside new n member ∙ (forgot n.level level.0 level.1).hints n.number (omega (arith, kept.hints))

-- every level was filled up, so that there are rows for all indices of so many blocks
abbrev pub FillsAll : ClaimTable → ClaimTable → ℕ → Type 0
FillsAll old new more =
    (level : ℕ) → 1 ≤ level → level ≤ 6 → (n : ℕ) × FillsClaims (rows_at old level) (rows_at new level) n × (8 * more ≤ n * 8 ^ level)

-- levels with the same rows make the same claims
pub claims_of-same : (old new : Levels ClaimLevelState) → HaveSameRows old new → claims_of new ≡ claims_of old
claims_of-same old new same =
    let e1 : new.level_1.rows ≡ old.level_1.rows = same 1 (omega arith) (omega arith) in
    let e2 : new.level_2.rows ≡ old.level_2.rows = same 2 (omega arith) (omega arith) in
    let e3 : new.level_3.rows ≡ old.level_3.rows = same 3 (omega arith) (omega arith) in
    let e4 : new.level_4.rows ≡ old.level_4.rows = same 4 (omega arith) (omega arith) in
    let e5 : new.level_5.rows ≡ old.level_5.rows = same 5 (omega arith) (omega arith) in
    let e6 : new.level_6.rows ≡ old.level_6.rows = same 6 (omega arith) (omega arith) in
    cc

-- levels that are filled up to the rows that so many blocks need
pub FillsAll-levels : (old more new : Levels ClaimLevelState) (rows : Levels ℕ) (blocks : ℕ)
    → HaveSameRows old more → AreFilled more new rows → ((level : ℕ) → 1 ≤ level → level ≤ 6 → 8 * blocks ≤ thing_at rows level * 8 ^ level)
    → FillsAll (claims_of old) (claims_of new) blocks
FillsAll-levels old more new rows blocks same fills covers =
    λ level low high. (
      thing_at rows level,
      rw (rows_at-thing old level low high, rows_at-thing new level low high, ← same level low high) (fills level low high),
      covers level low high,
    )

-- rows that are added read as not claimed
stamp-filled : (old new : ClaimRows) (n k : ℕ) → FillsClaims old new n → get_or new.claimed k 0 ≡ get_or old.claimed k 0
stamp-filled old new n k fills =
    let more = replicate (n - length old.claimed) 0 in
    ap (λ stamps. get_or stamps k 0) fills.claimed
    ∙ elim (cases_lt k (length old.claimed)) [
      | inl inside ↦ get_or_append_left old.claimed more 0 k inside
      | inr past ↦
          get_or-append_right old.claimed more (length old.claimed) k 0 refl past
          ∙ elim (cases_lt (k - length old.claimed) (n - length old.claimed)) [
            | inl added ↦ get_or-replicate (n - length old.claimed) (k - length old.claimed) 0 0 added
            | inr beyond ↦ get_or_past more (k - length old.claimed) 0 (omega (arith, length-replicate {A = ℕ} (n - length old.claimed) 0))
          ]
          ∙ sym (get_or_past old.claimed k 0 past)
    ]

-- how many rows there are then
rows-filled : (old new : ClaimRows) (n : ℕ) → FillsClaims old new n → length new.claimed ≡ length old.claimed + (n - length old.claimed)
rows-filled old new n fills =
    ap length fills.claimed ∙ length-append old.claimed (replicate (n - length old.claimed) 0) ∙ ap (λ k. length old.claimed + k) (length-replicate (n - length old.claimed) 0)

module _ (old new : ClaimTable) (more : ℕ) (filled : FillsAll old new more) where
  -- rows that are added change no claim
  pub claimed_in-filled : (n : Node) → claimed_in new n ≡ claimed_in old n
  claimed_in-filled n =
      elim (cases_Bool (is_node n)) [
        | inl member ↦
            let level = level_of_node n member in
            let added = filled n.level level.0 level.1 in
            claimed_in-inside new n member ∙ ap version_of (stamp-filled (rows_at old n.level) (rows_at new n.level) added.0 n.number added.1) ∙ sym (claimed_in-inside old n member)
        | inr stranger ↦ claimed_in-outside new n stranger ∙ sym (claimed_in-outside old n stranger)
      ]

  -- no hint is lost
  pub is_hinted-filled : (n : Node) → is_hinted old n ≡ true → is_hinted new n ≡ true
  is_hinted-filled n hint =
      elim (cases_Bool (is_node n)) [
        | inl member ↦
            let level = level_of_node n member in
            is_hinted-inside new n member ∙ (filled n.level level.0 level.1).1.alike n.number ∙ sym (is_hinted-inside old n member) ∙ hint
        | inr stranger ↦ absurd (false≢true (sym (is_hinted-outside old n stranger) ∙ hint))
      ]

  module _ (first : FillsClaims (rows_at old 1) (rows_at new 1) more) where
    -- the more of two numbers of blocks have rows
    claim_blocks-filled : claim_blocks new ≡ claim_blocks old + (more - claim_blocks old)
    claim_blocks-filled =
        claim_blocks-rows new ∙ rows-filled (rows_at old 1) (rows_at new 1) more first ∙ ap (λ b. b + (more - b)) (sym (claim_blocks-rows old))

    -- no block loses its rows
    pub claim_blocks_more : claim_blocks old ≤ claim_blocks new
    claim_blocks_more = omega (arith, claim_blocks-filled)

    -- all blocks that were wanted have rows
    pub claim_blocks_enough : more ≤ claim_blocks new
    claim_blocks_enough = omega (arith, claim_blocks-filled)

    -- and claims are kept as they must be
    pub AreClaims-filled : more ≤ 131071 → AreClaims old → AreClaims new
    AreClaims-filled few claims =
        AreClaims-by_rows new (claim_blocks old + (more - claim_blocks old)) claim_blocks-filled (omega (arith, claims.few)) (λ level low high.
        let kept = claims.levels level low high in
        let added = filled level low high in
        let rows = rows-filled (rows_at old level) (rows_at new level) added.0 added.1 in
        record {
          covers = rw rows (covers_more (length (rows_at old level).claimed) (claim_blocks old) more added.0 (8 ^ level) added.2 kept.covers);
          hints = omega (arith, rows, kept.hints, added.1.more, added.1.room);
        })

-- claims with no rows
abbrev pub IsEmpty : ClaimTable → Type 0
IsEmpty c = (level : ℕ) → 1 ≤ level → level ≤ 6 → rows_at c level ≡ no_claims

-- there are no blocks then
pub claim_blocks-empty : (c : ClaimTable) → IsEmpty c → claim_blocks c ≡ 0
claim_blocks-empty c empty = claim_blocks-rows c ∙ ap (λ rows. length rows.claimed) (empty 1 (omega arith) (omega arith))

-- no node is claimed
pub claimed_in-empty : (c : ClaimTable) → IsEmpty c → (n : Node) → claimed_in c n ≡ None
claimed_in-empty c empty n =
    elim (cases_Bool (is_node n)) [
      | inl member ↦
          let level = level_of_node n member in
          claimed_in-inside c n member ∙ ap (λ rows. version_of (get_or rows.claimed n.number 0)) (empty n.level level.0 level.1)
      | inr stranger ↦ claimed_in-outside c n stranger
    ]

-- and claims are kept as they must be
pub AreClaims-empty : (c : ClaimTable) → IsEmpty c → AreClaims c
AreClaims-empty c empty =
    AreClaims-by_rows c 0 (claim_blocks-empty c empty) (omega arith) (λ level low high. rw (empty level low high) record { covers = omega arith; hints = omega arith })
