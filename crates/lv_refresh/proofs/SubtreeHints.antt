-- What claims are once the hints at the blocks of a subtree were taken away.
use Rattle.std.proofs.Common.{◌≡◌, ℕ, ◌+◌, ◌*◌, ◌/◌, ◌≤◌, Bool, true, ◌&&◌, not, length, nat_eq, nat_le, nat_lt, sym, ap, ◌∙◌, inl, inr, arith}
use Rattle.std.proofs.lemmas.Bool.{and_from, and_left, and_right, cases_Bool, cases_eq, cases_lt, eq-eqb, le-leb, le-ltb, leb-true, lt-leb, lt-ltb, ne_eqb}
use Rattle.lv_geometry.specs.declared.nodes.Node.{Node}
use Rattle.lv_geometry.specs.Nodes.{is_below, is_node}
use Rattle.lv_geometry.proofs.NodeLaws.{level_of_node}
use Rattle.lv_refresh.specs.ClaimTable.{ClaimTable, claim_blocks, claimed_in, is_hinted}
use Rattle.lv_refresh.specs.Inner.{AreClaims, UnhintsSubtree, node_at}
use Rattle.lv_refresh.specs.Marks.{is_marked}
use Rattle.lv_refresh.specs.Subtrees.{is_block_of}
use Rattle.lv_refresh.proofs.RowLaws.{AreClaims-same, claim_blocks-rows, claim_blocks-same, claimed_in-same, is_hinted-inside, is_hinted-outside, rows_at}

-- whether a word is one of those from one on, before another
abbrev pub is_between : ℕ → ℕ → ℕ → Bool
is_between first last word = nat_le first word && nat_lt word last

-- none is before the first
pub between_none : (first word : ℕ) (b : Bool) → b ≡ not (is_between first first word) && b
between_none first word b =
    elim (cases_lt word first) [
      | inl before ↦ ap (λ is. not is && b) (sym (and_left (nat_le first word) (nat_lt word first) (lt-leb first word before)))
      | inr after ↦ ap (λ is. not is && b) (sym (and_right (nat_le first word) (nat_lt word first) (le-ltb word first after)))
    ]

-- one more
pub between_more : (first last word : ℕ) (b : Bool) → first ≤ last → not (nat_eq word last) && (not (is_between first last word) && b) ≡ not (is_between first (last + 1) word) && b
between_more first last word b order =
    elim (cases_eq word last) [
      | inl same ↦
          ap (λ is. not is && (not (is_between first last word) && b)) (eq-eqb word last same)
          ∙ ap (λ is. not is && b) (sym (and_from (nat_le first word) (nat_lt word (last + 1)) (le-leb first word (omega arith)) (lt-ltb word (last + 1) (omega arith))))
      | inr other ↦
          ap (λ is. not is && (not (is_between first last word) && b)) (ne_eqb word last other)
          ∙ elim (cases_lt word last) [
            | inl before ↦ ap (λ is. not (nat_le first word && is) && b) (lt-ltb word last before ∙ sym (lt-ltb word (last + 1) (omega arith)))
            | inr after ↦ ap (λ is. not (nat_le first word && is) && b) (le-ltb word last after ∙ sym (le-ltb word (last + 1) (omega arith)))
          ]
    ]

-- the words of a subtree are eight, and those of its blocks
pub between_all : (number k : ℕ) → is_between (8 * number) (8 * number + 8) (k / 64) ≡ nat_eq (k / 512) number
between_all number k =
    elim (cases_eq (k / 512) number) [
      | inl same ↦ and_from _ _ (le-leb (8 * number) (k / 64) (omega arith)) (lt-ltb (k / 64) (8 * number + 8) (omega arith)) ∙ sym (eq-eqb (k / 512) number same)
      | inr other ↦
          elim (cases_lt (k / 64) (8 * number)) [
            | inl before ↦ and_left (nat_le (8 * number) (k / 64)) (nat_lt (k / 64) (8 * number + 8)) (lt-leb (8 * number) (k / 64) before)
            | inr after ↦ and_right (nat_le (8 * number) (k / 64)) (nat_lt (k / 64) (8 * number + 8)) (le-ltb (k / 64) (8 * number + 8) (omega arith))
          ]
          ∙ sym (ne_eqb (k / 512) number other)
    ]

-- the words of a subtree that is inside of the blocks have their rows
pub words_inside : (c : ClaimTable) (number : ℕ) → AreClaims c → is_below (node_at 4 number) (8 * claim_blocks c) ≡ true → (8 * number + 8 ≤ length (rows_at c 1).hints) × (8 * number + 8 ≤ 2048)
words_inside c number claims below =
    let ends : (number + 1) * 4096 ≤ 8 * claim_blocks c = leb-true ((number + 1) * 4096) (8 * claim_blocks c) below in
    let hints = (claims.levels 1 (omega arith) (omega arith)).hints in
    let blocks = claim_blocks-rows c in (
      omega (arith, ends, hints, blocks),
      omega (arith, ends, claims.few),
    )

module _ (old new : ClaimTable) (number : ℕ) (first : UnhintsSubtree (rows_at old 1) (rows_at new 1) number) (others : (level : ℕ) → 2 ≤ level → level ≤ 6 → rows_at new level ≡ rows_at old level) where
  -- each level keeps its stamps
  stamps_stay : (level : ℕ) → 1 ≤ level → level ≤ 6 → (rows_at new level).claimed ≡ (rows_at old level).claimed
  stamps_stay level low high =
      elim (cases_eq level 1) [
        | inl is ↦ ap (λ level. (rows_at new level).claimed) is ∙ first.claimed ∙ sym (ap (λ level. (rows_at old level).claimed) is)
        | inr above ↦ ap (λ rows. rows.claimed) (others level (omega arith) high)
      ]

  -- and its room for hints
  room_stays : (level : ℕ) → 1 ≤ level → level ≤ 6 → length (rows_at new level).hints ≡ length (rows_at old level).hints
  room_stays level low high =
      elim (cases_eq level 1) [
        | inl is ↦ ap (λ level. length (rows_at new level).hints) is ∙ first.room ∙ sym (ap (λ level. length (rows_at old level).hints) is)
        | inr above ↦ ap (λ rows. length rows.hints) (others level (omega arith) high)
      ]

  -- claims are kept as they must be
  pub AreClaims-passed : AreClaims old → AreClaims new
  AreClaims-passed claims = AreClaims-same old new claims (λ level low high. ap length (stamps_stay level low high)) room_stays

  -- each node is claimed as it was
  pub claimed_in-passed : (n : Node) → claimed_in new n ≡ claimed_in old n
  claimed_in-passed = claimed_in-same old new stamps_stay

  -- there are as many blocks
  pub claim_blocks-passed : claim_blocks new ≡ claim_blocks old
  claim_blocks-passed = claim_blocks-same old new (λ level low high. ap length (stamps_stay level low high))

  -- a node is inside of them as it was
  pub inside-passed : (n : Node) → is_below n (8 * claim_blocks old) ≡ true → is_below n (8 * claim_blocks new) ≡ true
  inside-passed n inside = ap (λ blocks. is_below n (8 * blocks)) claim_blocks-passed ∙ inside

  -- no block of the subtree is hinted at, and each other node as it was
  pub is_hinted-passed : (n : Node) → is_hinted new n ≡ not (is_block_of number n) && is_hinted old n
  is_hinted-passed n =
      elim (cases_Bool (is_node n)) [
        | inl member ↦ elim (cases_eq n.level 1) [
          | inl low ↦
              is_hinted-inside new n member
              ∙ ap (λ level. is_marked (rows_at new level).hints n.number) low
              ∙ first.hints n.number
              ∙ ap (λ level. not (nat_eq (n.number / 512) number) && is_marked (rows_at old level).hints n.number) (sym low)
              ∙ ap (λ hinted. not (nat_eq (n.number / 512) number) && hinted) (sym (is_hinted-inside old n member))
              ∙ ap (λ block. not (block && nat_eq (n.number / 512) number) && is_hinted old n) (sym (eq-eqb n.level 1 low))
          | inr above ↦
              let level = level_of_node n member in
              is_hinted-inside new n member
              ∙ ap (λ rows. is_marked rows.hints n.number) (others n.level (omega (arith, level)) level.1)
              ∙ sym (is_hinted-inside old n member)
              ∙ ap (λ block. not (block && nat_eq (n.number / 512) number) && is_hinted old n) (sym (ne_eqb n.level 1 above))
        ]
        | inr stranger ↦ is_hinted-outside new n stranger ∙ sym (and_right (not (is_block_of number n)) (is_hinted old n) (is_hinted-outside old n stranger))
      ]
