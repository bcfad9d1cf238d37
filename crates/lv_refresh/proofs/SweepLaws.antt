-- What a sweep over blocks keeps, and how it is joined from its steps.
use Rattle.std.proofs.Common.{◌≡◌, ◌⊎◌, ℕ, ℤ, zero, suc, ◌+◌, ◌-◌, ◌*◌, ◌/◌, ◌%◌, ◌^◌, ◌<◌, ◌≤◌, true, false, not, if◌then◌else◌, Some, List, drop, get_or, length, nat_eq, slice_set, take, refl, sym, ap, subst, ◌∙◌, inl, inr, arith}
use Rattle.std.specs.Prelude.{slice_range}
use Rattle.std.proofs.lemmas.List.{drop-drop, get_or-set_other, get_or-set_same}
use Rattle.std.proofs.lemmas.Bool.{and_from, and_parts, cases_Bool, cases_eq, cond-false, cond-true, and_right, eq-eqb, or_left, false_from_ne_true, false≢true, ne_eqb, true≢false}
use Rattle.lv_geometry.specs.declared.nodes.Node.{Node}
use Rattle.lv_geometry.specs.Nodes.{is_node, parent, same_node}
use Rattle.lv_geometry.proofs.NodeLaws.{at_each_level, level_of_node, node_of_level}
use Rattle.lv_bodies.specs.Body.{Operations, fold_of}
use Rattle.lv_edits.specs.declared.edit.Edit.{Edit}
use Rattle.lv_edits.specs.History.{list_of}
use Rattle.lv_edits.specs.Touch.{elements_under}
use Rattle.lv_edits.proofs.Slices.{part_of_take}
use Rattle.lv_summary.specs.Agrees.{Agrees}
use Rattle.lv_summary.proofs.AgreesLaws.{agrees_installed, whole_agrees}
use Rattle.lv_summary.specs.Changes.{Keeps}
use Rattle.lv_summary.specs.Table.{Table, touched_in, whole_in}
use Rattle.lv_summary.proofs.TableLaws.{same_node-eq, version_kept}
use Rattle.lv_refresh.specs.Claim.{wants_job}
use Rattle.lv_refresh.specs.ClaimTable.{AreHints, ClaimRows, ClaimTable, claim_blocks, claimed_in, is_hinted, record_of, version_of}
use Rattle.lv_geometry.specs.declared.levels.Levels.{Levels}
use Rattle.lv_geometry.specs.Levels.{with_thing}
use Rattle.lv_refresh.specs.Inner.{AreClaims, CanServe, ClaimLevelState, HintsNode, Picks, ServesNode, UnhintsWord, claims_of, node_at, wants_at, wants_in, with_claim}
use Rattle.lv_refresh.specs.Marks.{is_marked}
use Rattle.lv_refresh.specs.Record.{SameRecord}
use Rattle.lv_refresh.specs.Refreshed.{RefreshesEach, RefreshesOne}
use Rattle.lv_refresh.specs.Sweep.{IsSwept, Sweeps}
use Rattle.lv_refresh.proofs.ComputeLaws.{hints_refreshed, refreshes, whole_served}
use Rattle.lv_refresh.proofs.HonestyLaws.{whole_of_wanted}
use Rattle.lv_refresh.proofs.NextLaws.{wants_agrees}
use Rattle.lv_refresh.proofs.PickLaws.{row_of_wanted, version_of-stamp, wants_in-claimed}
use Rattle.lv_refresh.proofs.RowLaws.{AreClaims-same, claim_blocks-same, claimed_in-inside, claimed_in-same, is_hinted-inside, is_hinted-outside, rows_at}
use Rattle.lv_refresh.proofs.WantLaws.{wants_before_install, wants_job-same}

module _ {S : Type 0} (o : Operations S) (edits : List Edit) where
  -- what was refreshed was, whatever becomes of hints then
  pub each_same : (old new : Table S) (before after later : ClaimTable) (n : ℕ) → RefreshesEach o edits old new before after n → ((m : Node) → claimed_in later m ≡ claimed_in after m) → RefreshesEach o edits old new before later n
  each_same old new before after later zero each same = (each.0, λ m. same m ∙ each.1 m)
  each_same old new before after later (suc n) (mid, between, so, last) same = (
    mid,
    between,
    so,
    record { node = last.node; version = last.version; next = last.next; keeps = last.keeps; claimed = λ m. same m ∙ last.claimed m },
  )

  -- refreshes go on after others
  pub each_then : (old mid new : Table S) (before between after : ClaimTable) (m n : ℕ) → RefreshesEach o edits old mid before between m → RefreshesEach o edits mid new between after n → RefreshesEach o edits old new before after (m + n)
  each_then old mid new before between after m zero first each =
      let none : m + zero ≡ m = omega arith in
      rw none (subst (λ t. RefreshesEach o edits old t before after m) (sym each.0) (each_same old mid before between after m first each.1))
  each_then old mid new before between after m (suc n) first (t, c, so, last) =
      let more : m + suc n ≡ suc (m + n) = omega arith in
      rw more (t, c, each_then old mid t before between c m n first so, last)

  -- one was refreshed
  pub each_one : (old new : Table S) (before after : ClaimTable) → RefreshesOne o edits old new before after → RefreshesEach o edits old new before after 1
  each_one old new before after one = (old, before, (refl, λ m. refl), one)

  -- a sweep goes on after another
  pub sweeps_then : (old mid new : Table S) (before between after : ClaimTable) (m n from to : ℕ) → Sweeps o edits old mid before between m from → Sweeps o edits mid new between after n to → Sweeps o edits old new before after (m + n) to
  sweeps_then old mid new before between after m n from to first later =
      record {
        refreshed = each_then old mid new before between after m n first.refreshed later.refreshed;
        swept = later.swept;
        size = later.size ∙ first.size;
        blocks = later.blocks ∙ first.blocks;
      }

  -- nothing was refreshed
  pub sweeps_none : (t : Table S) (c : ClaimTable) (next : ℕ) → IsSwept o edits t c next → Sweeps o edits t t c c 0 next
  sweeps_none t c next swept = record { refreshed = (refl, λ m. refl); swept = swept; size = refl; blocks = refl }

  -- a block that wants no job is passed
  pub sweeps_past : (t : Table S) (c : ClaimTable) (number : ℕ) → IsSwept o edits t c number → wants_in t (claimed_in c (node_at 1 number)) (node_at 1 number) ≡ false → Sweeps o edits t t c c 0 (number + 1)
  sweeps_past t c number swept none =
      sweeps_none t c (number + 1) record {
        agrees = swept.agrees;
        hints = swept.hints;
        grown = swept.grown;
        calm = λ k before. elim (cases_eq k number) [
          | inl same ↦ ap (λ k. wants_job (record_of edits t c) (node_at 1 k)) same ∙ wants_agrees o edits t swept.agrees c (node_at 1 number) ∙ none
          | inr other ↦ swept.calm k (omega arith)
        ];
      }

  -- the blocks before one want no job by the table either
  pub calm_in : (t : Table S) (c : ClaimTable) (number : ℕ) → IsSwept o edits t c number → (k : ℕ) → k < number → wants_in t (claimed_in c (node_at 1 k)) (node_at 1 k) ≡ false
  calm_in t c number swept k before = sym (wants_agrees o edits t swept.agrees c (node_at 1 k)) ∙ swept.calm k before

  module _ (t u : Table S) (old mid new : ClaimTable) (number v : ℕ) (swept : IsSwept o edits t old number) (served : ServesNode t old mid (node_at 1 number, v)) (hinted : HintsNode mid new (parent (node_at 1 number)))
      (keeps : Keeps t u (node_at 1 number) v (fold_of o (elements_under edits (node_at 1 number)))) where
    -- the block that is refreshed
    abbrev block : Node
    block = node_at 1 number

    whole : whole_in t block ≡ true
    whole = whole_served t old mid (block, v) served

    -- the table agrees still
    agrees_after : Agrees o edits u
    agrees_after = agrees_installed o edits t u block v (fold_of o (elements_under edits block)) swept.agrees keeps whole (sym served.version) refl

    -- who wants a job now wanted one before the block's summary was kept, or is its parent
    wants_then : (n : Node) → wants_job (record_of edits u new) n ≡ true → (wants_job (record_of edits t new) n ≡ true) ⊎ (same_node n (parent block) ≡ true)
    wants_then =
        wants_before_install (record_of edits t new) (record_of edits u new) block v refl (λ n. refl) (version_kept t u block v (fold_of o (elements_under edits block)) keeps)
        (whole_agrees o edits t swept.agrees block ∙ whole) (sym (swept.agrees.touched block (and_parts _ _ whole).0) ∙ sym served.version)

    -- the claims with which it was refreshed
    claimed_then : (n : Node) → claimed_in new n ≡ (if same_node n block then Some v else claimed_in old n)
    claimed_then n = hinted.claimed n ∙ served.claimed n

    -- a node wants a job by the table as it did, if it isn't the block
    wants_besides : (n : Node) → same_node n block ≡ false → wants_job (record_of edits t new) n ≡ wants_job (record_of edits t old) n
    wants_besides n other =
        wants_agrees o edits t swept.agrees new n
        ∙ ap (λ claimed. wants_in t claimed n) (claimed_then n ∙ cond-false _ _ _ other)
        ∙ sym (wants_agrees o edits t swept.agrees old n)

    -- the block wants none
    calm_here : wants_job (record_of edits t new) block ≡ false
    calm_here =
        wants_agrees o edits t swept.agrees new block
        ∙ ap (λ claimed. wants_in t claimed block) (claimed_then block ∙ cond-true _ _ _ (and_from _ _ (eq-eqb 1 1 refl) (eq-eqb number number refl)))
        ∙ wants_in-claimed t v block served.version

    -- nor does one before it
    calm_after : (k : ℕ) → k < number + 1 → wants_job (record_of edits u new) (node_at 1 k) ≡ false
    calm_after k before =
        false_from_ne_true (wants_job (record_of edits u new) (node_at 1 k)) (λ wants. elim (wants_then (node_at 1 k) wants) [
          | inl was ↦ elim (cases_eq k number) [
            | inl same ↦ true≢false (sym was ∙ ap (λ k. wants_job (record_of edits t new) (node_at 1 k)) same ∙ calm_here)
            | inr other ↦ true≢false (sym was ∙ wants_besides (node_at 1 k) (and_right (nat_eq 1 1) (nat_eq k number) (ne_eqb k number other)) ∙ swept.calm k (omega arith))
          ]
          | inr above ↦ false≢true (and_parts (nat_eq 1 2) (nat_eq k (number / 8)) above).0
        ])

    -- each node that wants a job is hinted at still
    hints_after : AreHints (record_of edits u new) new
    hints_after n wants =
        elim (wants_then n wants) [
          | inl was ↦ hints_refreshed o edits t swept.agrees old mid new block v served hinted n was
          | inr above ↦
              let one = same_node-eq n (parent block) above in
              let inside : is_node n ≡ true = (and_parts _ _ (whole_of_wanted (record_of edits u new) n wants)).0 in
              hinted.hints n ∙ or_left _ _ (and_from _ _ inside above)
        ]

    -- the block was swept
    pub sweeps_one : Sweeps o edits t u old new 1 (number + 1)
    sweeps_one =
        let turn = refreshes o edits t swept.agrees old mid new block v served hinted u keeps in
        let blocks : claim_blocks new ≡ claim_blocks old = hinted.blocks ∙ served.blocks in
        record {
          refreshed = each_one t u old new record { node = turn.node; version = turn.version; next = turn.next; keeps = turn.keeps; claimed = turn.claimed };
          swept = record { agrees = agrees_after; hints = hints_after; grown = omega (arith, swept.grown, keeps.size, blocks); calm = calm_after };
          size = keeps.size;
          blocks = blocks;
        }

-- the elements at a block's place among those of its word are the block's
pub near_elements : (edits : List Edit) (block : Node) (near : List ℤ) → block.level ≡ 1 → near ≡ slice_range (list_of edits) (512 * (block.number / 64)) (512 * (block.number / 64) + length near) → (from : ℕ) → from ≡ block.number % 64 * 8 → from + 8 ≤ length near
    → slice_range near from (from + 8) ≡ elements_under edits block
near_elements edits block near low is from at inside =
    let xs = list_of edits in
    let first = 512 * (block.number / 64) in
    let long : first + length near - first ≡ length near = omega arith in
    let eight : from + 8 - from ≡ 8 = omega arith in
    let place : first + from ≡ block.number * 8 = omega (arith, at) in
    let width : 8 ^ block.level ≡ 8 = ap (λ level. 8 ^ level) low in
    ap (λ k. take k (drop from near)) eight
    ∙ ap (λ near. take 8 (drop from near)) (is ∙ ap (λ k. take k (drop first xs)) long)
    ∙ part_of_take (drop first xs) (length near) from 8 inside
    ∙ ap (take 8) (drop-drop from first xs ∙ ap (λ k. drop k xs) place)
    ∙ sym (ap (λ w. take w (drop (block.number * w) xs)) width)

-- the hints at 64 blocks are taken away
pub record UnhintsBlocks (old new : ClaimTable) (word : ℕ) : Type 0 where
  pub claimed : (n : Node) → claimed_in new n ≡ claimed_in old n
  pub hints : (n : Node) → is_hinted old n ≡ true → (is_hinted new n ≡ true) ⊎ ((n.level ≡ 1) × (n.number / 64 ≡ word))
  pub blocks : claim_blocks new ≡ claim_blocks old

module _ (old new : ClaimTable) (word : ℕ) (first : UnhintsWord (rows_at old 1) (rows_at new 1) word) (others : (level : ℕ) → 2 ≤ level → level ≤ 6 → rows_at new level ≡ rows_at old level) where
  -- each level keeps its stamps
  stamps_stay : (level : ℕ) → 1 ≤ level → level ≤ 6 → (rows_at new level).claimed ≡ (rows_at old level).claimed
  stamps_stay level low high =
      elim (cases_eq level 1) [
        | inl is ↦ ap (λ level. (rows_at new level).claimed) is ∙ first.claimed ∙ sym (ap (λ level. (rows_at old level).claimed) is)
        | inr above ↦ ap (λ rows. rows.claimed) (others level (omega arith) high)
      ]

  -- and its room for hints
  room_stays : (level : ℕ) → 1 ≤ level → level ≤ 6 → length (rows_at new level).hints ≡ length (rows_at old level).hints
  room_stays level low high =
      elim (cases_eq level 1) [
        | inl is ↦ ap (λ level. length (rows_at new level).hints) is ∙ first.room ∙ sym (ap (λ level. length (rows_at old level).hints) is)
        | inr above ↦ ap (λ rows. length rows.hints) (others level (omega arith) high)
      ]

  -- claims are kept as they must be
  pub AreClaims-unhinted : AreClaims old → AreClaims new
  AreClaims-unhinted claims = AreClaims-same old new claims (λ level low high. ap length (stamps_stay level low high)) room_stays

  -- the hints at the blocks of the word are taken away
  pub UnhintsBlocks-by_rows : UnhintsBlocks old new word
  UnhintsBlocks-by_rows =
      record {
        claimed = claimed_in-same old new stamps_stay;
        hints = λ n was. elim (cases_Bool (is_node n)) [
          | inl member ↦
              let level = level_of_node n member in
              let before : is_marked (rows_at old n.level).hints n.number ≡ true = sym (is_hinted-inside old n member) ∙ was in
              elim (cases_eq n.level 1) [
                | inl low ↦ elim (cases_eq (n.number / 64) word) [
                  | inl here ↦ inr (low, here)
                  | inr apart ↦
                      inl (is_hinted-inside new n member
                      ∙ ap (λ level. is_marked (rows_at new level).hints n.number) low
                      ∙ first.hints n.number
                      ∙ and_from _ _ (ap not (ne_eqb (n.number / 64) word apart)) (ap (λ level. is_marked (rows_at old level).hints n.number) (sym low) ∙ before))
                ]
                | inr above ↦ inl (is_hinted-inside new n member ∙ ap (λ rows. is_marked rows.hints n.number) (others n.level (omega (arith, level)) level.1) ∙ before)
              ]
          | inr stranger ↦ absurd (false≢true (sym (is_hinted-outside old n stranger) ∙ was))
        ];
        blocks = claim_blocks-same old new (λ level low high. ap length (stamps_stay level low high));
      }

-- the levels above that of blocks stay
pub others_stay : (of : Levels ClaimLevelState) (changed : ClaimLevelState) (level : ℕ) → 2 ≤ level → level ≤ 6 → rows_at (claims_of (with_thing of 1 changed)) level ≡ rows_at (claims_of of) level
others_stay of changed level above high =
    at_each_level (λ level. 2 ≤ level → rows_at (claims_of (with_thing of 1 changed)) level ≡ rows_at (claims_of of) level) (λ above. absurd (omega (arith, above))) (λ above. refl) (λ above. refl) (λ above. refl) (λ above. refl) (λ above. refl) level (omega arith) high above

-- a sweep starts at the word of the first hint
pub sweeps_start : {S : Type 0} (o : Operations S) (edits : List Edit) (t : Table S) (c inside : ClaimTable) (first : ℕ) → c ≡ inside → Agrees o edits t → AreHints (record_of edits t c) c → t.size ≤ 8 * claim_blocks c → ((k : ℕ) → k < first → is_marked (rows_at inside 1).hints k ≡ false) → Sweeps o edits t t c c 0 (64 * (first / 64))
sweeps_start o edits t c inside first is agrees hints grown least =
    sweeps_none o edits t c (64 * (first / 64)) record {
      agrees = agrees;
      hints = hints;
      grown = grown;
      calm = λ k before.
          let block = node_at 1 k in
          let unmarked : is_marked (rows_at c 1).hints k ≡ false = ap (λ c. is_marked (rows_at c 1).hints k) is ∙ least k (omega arith) in
          false_from_ne_true (wants_job (record_of edits t c) block) (λ wants. true≢false (sym (hints block wants) ∙ is_hinted-inside c block (node_of_level block (omega arith) (omega arith)) ∙ unmarked));
    }

-- hints at 64 blocks that were swept aren't missed
pub sweeps_unhinted : {S : Type 0} (o : Operations S) (edits : List Edit) (t u : Table S) (before after last : ClaimTable) (count word : ℕ) → Sweeps o edits t u before after count (64 * word + 64) → UnhintsBlocks after last word → Sweeps o edits t u before last count (64 * word + 64)
sweeps_unhinted o edits t u before after last count word sweeps away =
    let same : SameRecord (record_of edits u after) (record_of edits u last) = record { edits = refl; issued = refl; claimed = away.claimed; kept = λ n. refl } in
    let wants = wants_job-same (record_of edits u after) (record_of edits u last) same in
    let swept = sweeps.swept in
    record {
      refreshed = each_same o edits t u before after last count sweeps.refreshed away.claimed;
      swept = record {
        agrees = swept.agrees;
        hints = λ n still.
            let was = sym (wants n) ∙ still in
            elim (away.hints n (swept.hints n was)) [
              | inl hinted ↦ hinted
              | inr here ↦
                  let block : n ≡ node_at 1 n.number = ap (λ level. node_at level n.number) here.0 in
                  absurd (true≢false (sym was ∙ ap (wants_job (record_of edits u after)) block ∙ swept.calm n.number (omega (arith, here.1))))
            ];
        grown = omega (arith, swept.grown, away.blocks);
        calm = λ k before. wants (node_at 1 k) ∙ swept.calm k before;
      };
      size = sweeps.size;
      blocks = away.blocks ∙ sweeps.blocks;
    }

-- a block that wants a job is picked if none before it does, and its hint stays
pub Picks-block : {S : Type 0} (t : Table S) (old new : ClaimRows) (number version : ℕ) → CanServe t 1 old → wants_at t 1 old number ≡ true → ((k : ℕ) → k < number → wants_at t 1 old k ≡ false) → version ≡ touched_in t (node_at 1 number) → new ≡ with_claim old number version → Picks t 1 old new (node_at 1 number, version)
Picks-block t old new number version can wants least is made =
    let inside = row_of_wanted t (version_of (get_or old.claimed number 0)) 1 number old wants can.rows_enough in
    let now : new.claimed ≡ slice_set old.claimed number (version + 1) = ap (λ rows. rows.claimed) made in
    record {
      level_is = refl;
      wants = wants;
      least = least;
      version = is;
      claimed = now;
      inside = inside;
      hints = λ k still. elim (cases_eq k number) [
        | inl same ↦
            let stamp : get_or new.claimed number 0 ≡ version + 1 = ap (λ stamps. get_or stamps number 0) now ∙ get_or-set_same old.claimed number (version + 1) 0 inside in
            let calm : wants_at t 1 new number ≡ false = ap (λ stamp. wants_in t (version_of stamp) (node_at 1 number)) stamp ∙ ap (λ claimed. wants_in t claimed (node_at 1 number)) (version_of-stamp version) ∙ wants_in-claimed t version (node_at 1 number) is in
            absurd (false≢true (sym calm ∙ ap (wants_at t 1 new) (sym same) ∙ still))
        | inr other ↦
            let stamp : get_or new.claimed k 0 ≡ get_or old.claimed k 0 = ap (λ stamps. get_or stamps k 0) now ∙ get_or-set_other old.claimed number k (version + 1) 0 other in
            ap (λ rows. is_marked rows.hints k) made ∙ can.hints k (ap (λ stamp. wants_in t (version_of stamp) (node_at 1 k)) (sym stamp) ∙ still)
      ];
      room = ap (λ rows. length rows.hints) made;
    }

-- a block wants a job by its row as it does by the claims
pub wants_by_row : {S : Type 0} (t : Table S) (c : ClaimTable) (k : ℕ) → wants_in t (claimed_in c (node_at 1 k)) (node_at 1 k) ≡ wants_at t 1 (rows_at c 1) k
wants_by_row t c k = ap (λ claimed. wants_in t claimed (node_at 1 k)) (claimed_in-inside c (node_at 1 k) (node_of_level (node_at 1 k) (omega arith) (omega arith)))
