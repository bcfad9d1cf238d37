-- What a hint at one node makes of claims.
use Rattle.std.proofs.Common.{◌≡◌, ◌≢◌, ℕ, ◌<◌, ◌≤◌, ◌&&◌, ◌||◌, length, nat_eq, true, refl, sym, ap, ◌∙◌, inl, inr, arith}
use Rattle.std.proofs.lemmas.Bool.{and_parts, and_right, cases_Bool, cases_eq, eq-eqb, eqb-true, ne_eqb}
use Rattle.lv_geometry.specs.declared.levels.Levels.{Levels}
use Rattle.lv_geometry.specs.declared.nodes.Node.{Node}
use Rattle.lv_geometry.specs.Levels.{thing_at, with_thing}
use Rattle.lv_geometry.specs.Nodes.{is_node, over, same_node}
use Rattle.lv_geometry.proofs.NodeLaws.{at_each_level, level_of_node}
use Rattle.lv_summary.proofs.TableLaws.{node_of_same}
use Rattle.lv_refresh.specs.ClaimTable.{ClaimTable, is_hinted}
use Rattle.lv_refresh.specs.Inner.{AreClaims, ClaimLevelState, HintsAt, HintsNode, claims_of}
use Rattle.lv_refresh.specs.Marks.{is_marked}
use Rattle.lv_refresh.proofs.RowLaws.{AreClaims-same, claim_blocks-same, claimed_in-same, is_hinted-inside, is_hinted-outside, rows_at}

-- one number is hinted at on one level, and the other levels are as they were
pub record HintsLevel (old new : ClaimTable) (k number level : ℕ) : Type 0 where
  pub here : level ≡ k → HintsAt (rows_at old level) (rows_at new level) number
  pub other : level ≢ k → rows_at new level ≡ rows_at old level

-- the level that has the hint
pub level_hinted : {old new : ClaimTable} {number level : ℕ} → HintsAt (rows_at old level) (rows_at new level) number → HintsLevel old new level number level
level_hinted {old} {new} {number} {level} hinted = record { here = λ is. hinted; other = λ other. absurd (other refl) }

-- a level that stays
pub level_stays : {old new : ClaimTable} {k number level : ℕ} → level ≢ k → rows_at new level ≡ rows_at old level → HintsLevel old new k number level
level_stays {old} {new} {k} {number} {level} apart same = record { here = λ is. absurd (apart is); other = λ other. same }

-- claims of six levels, with a further hint in one of these
pub HintsLevel-one : (of : Levels ClaimLevelState) (k number : ℕ) (changed : ClaimLevelState) → 1 ≤ k → k ≤ 6 → HintsAt (thing_at of k).rows changed.rows number → (level : ℕ) → 1 ≤ level → level ≤ 6 → HintsLevel (claims_of of) (claims_of (with_thing of k changed)) k number level
HintsLevel-one of k number changed low high is =
    at_each_level (λ k. HintsAt (thing_at of k).rows changed.rows number → (level : ℕ) → 1 ≤ level → level ≤ 6 → HintsLevel (claims_of of) (claims_of (with_thing of k changed)) k number level)
    (λ is. at_each_level _ (level_hinted is) (level_stays (omega arith) refl) (level_stays (omega arith) refl) (level_stays (omega arith) refl) (level_stays (omega arith) refl) (level_stays (omega arith) refl))
    (λ is. at_each_level _ (level_stays (omega arith) refl) (level_hinted is) (level_stays (omega arith) refl) (level_stays (omega arith) refl) (level_stays (omega arith) refl) (level_stays (omega arith) refl))
    (λ is. at_each_level _ (level_stays (omega arith) refl) (level_stays (omega arith) refl) (level_hinted is) (level_stays (omega arith) refl) (level_stays (omega arith) refl) (level_stays (omega arith) refl))
    (λ is. at_each_level _ (level_stays (omega arith) refl) (level_stays (omega arith) refl) (level_stays (omega arith) refl) (level_hinted is) (level_stays (omega arith) refl) (level_stays (omega arith) refl))
    (λ is. at_each_level _ (level_stays (omega arith) refl) (level_stays (omega arith) refl) (level_stays (omega arith) refl) (level_stays (omega arith) refl) (level_hinted is) (level_stays (omega arith) refl))
    (λ is. at_each_level _ (level_stays (omega arith) refl) (level_stays (omega arith) refl) (level_stays (omega arith) refl) (level_stays (omega arith) refl) (level_stays (omega arith) refl) (level_hinted is))
    k low high is

module _ (old new : ClaimTable) (k number : ℕ) (hinted : (level : ℕ) → 1 ≤ level → level ≤ 6 → HintsLevel old new k number level) where
  -- a hint leaves the stamps of each level
  stamps_stay : (level : ℕ) → 1 ≤ level → level ≤ 6 → (rows_at new level).claimed ≡ (rows_at old level).claimed
  stamps_stay level low high =
      elim (cases_eq level k) [
        | inl is ↦ ((hinted level low high).here is).claimed
        | inr apart ↦ ap (λ rows. rows.claimed) ((hinted level low high).other apart)
      ]

  -- and the room for hints
  room_stays : (level : ℕ) → 1 ≤ level → level ≤ 6 → length (rows_at new level).hints ≡ length (rows_at old level).hints
  room_stays level low high =
      elim (cases_eq level k) [
        | inl is ↦ ((hinted level low high).here is).room
        | inr apart ↦ ap (λ rows. length rows.hints) ((hinted level low high).other apart)
      ]

  -- claims are kept as they must be when a node is hinted at
  pub AreClaims-hinted : AreClaims old → AreClaims new
  AreClaims-hinted claims = AreClaims-same old new claims (λ level low high. ap length (stamps_stay level low high)) room_stays

  -- the node of the level and the number is hinted at
  pub HintsNode-by_rows : (node : Node) → node.level ≡ k → node.number ≡ number → HintsNode old new node
  HintsNode-by_rows node level_is number_is =
      record {
        claimed = claimed_in-same old new stamps_stay;
        hints = λ n. elim (cases_Bool (is_node n)) [
          | inl member ↦
              let level = level_of_node n member in
              elim (cases_eq n.level k) [
                | inl is ↦
                    is_hinted-inside new n member
                    ∙ ((hinted n.level level.0 level.1).here is).hints n.number
                    ∙ ap (λ hint. nat_eq n.number number || hint) (sym (is_hinted-inside old n member))
                    ∙ ap (λ j. nat_eq n.number j || is_hinted old n) (sym number_is)
                    ∙ ap (λ same. (same && nat_eq n.number node.number) || is_hinted old n) (sym (eq-eqb n.level node.level (is ∙ sym level_is)))
                    ∙ ap (λ inside. (inside && same_node n node) || is_hinted old n) (sym member)
                | inr apart ↦
                    is_hinted-inside new n member
                    ∙ ap (λ rows. is_marked rows.hints n.number) ((hinted n.level level.0 level.1).other apart)
                    ∙ sym (is_hinted-inside old n member)
                    ∙ ap (λ same. (same && nat_eq n.number node.number) || is_hinted old n) (sym (ne_eqb n.level node.level (λ same. apart (same ∙ level_is))))
                    ∙ ap (λ inside. (inside && same_node n node) || is_hinted old n) (sym member)
              ]
          | inr stranger ↦
              is_hinted-outside new n stranger ∙ sym (is_hinted-outside old n stranger) ∙ ap (λ inside. (inside && same_node n node) || is_hinted old n) (sym stranger)
        ];
        blocks = claim_blocks-same old new (λ level low high. ap length (stamps_stay level low high));
      }

-- a hint at a node of the table
pub hinted_there : (old new : ClaimTable) (node : Node) → is_node node ≡ true → HintsNode old new node → (n : Node) → is_hinted new n ≡ same_node n node || is_hinted old n
hinted_there old new node there hinted n =
    elim (cases_Bool (same_node n node)) [
      | inl same ↦
          hinted.hints n ∙ ap (λ member. (member && same_node n node) || is_hinted old n) (node_of_same n node same there)
      | inr other ↦
          hinted.hints n
          ∙ ap (λ one. one || is_hinted old n) (and_right (is_node n) (same_node n node) other)
          ∙ ap (λ one. one || is_hinted old n) (sym other)
    ]

-- a hint at the block of an index is at a node of the table
pub block_hinted : (old new : ClaimTable) (i : ℕ) → HintsNode old new (over 1 i) → (n : Node) → is_hinted new n ≡ same_node n (over 1 i) || is_hinted old n
block_hinted old new i hinted = hinted_there old new (over 1 i) refl hinted

-- a node above the six levels needs no hint
pub HintsNode-above : (c : ClaimTable) (node : Node) → 6 < node.level → HintsNode c c node
HintsNode-above c node above =
    record {
      claimed = λ n. refl;
      hints = λ n. elim (cases_Bool (is_node n && same_node n node)) [
        | inl both ↦
            let parts = and_parts (is_node n) (same_node n node) both in
            let level : n.level ≡ node.level = eqb-true n.level node.level (and_parts _ _ parts.1).0 in
            absurd (omega (arith, level_of_node n parts.0))
        | inr neither ↦ ap (λ hint. hint || is_hinted c n) (sym neither)
      ];
      blocks = refl;
    }
