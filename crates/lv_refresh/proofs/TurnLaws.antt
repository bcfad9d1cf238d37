-- Which job comes next over all six levels, by what becomes of each.
use Rattle.std.proofs.Common.{◌≡◌, ◌≢◌, ℕ, ◌+◌, ◌*◌, ◌<◌, ◌≤◌, true, false, if◌then◌else◌, Option, Some, None, length, get_or, slice_set, refl, sym, ap, subst, ◌∙◌, inl, inr, arith}
use Rattle.std.proofs.lemmas.Bool.{and_from, and_left, and_parts, and_right, cases_Bool, cases_eq, cases_lt, cond-false, cond-true, eq-eqb, false_from_ne_true, false≢true, ne_eqb}
use Rattle.std.proofs.lemmas.List.{get_or-set_other, get_or-set_same, length-set}
use Rattle.lv_geometry.specs.declared.nodes.Node.{Node}
use Rattle.lv_geometry.specs.Nodes.{is_below, is_node, same_node}
use Rattle.lv_geometry.proofs.NodeLaws.{level_of_node, node_of_level}
use Rattle.lv_summary.specs.Table.{Table}
use Rattle.lv_summary.proofs.TableLaws.{node_of_same}
use Rattle.lv_refresh.specs.Claim.{Before}
use Rattle.lv_refresh.specs.ClaimTable.{ClaimTable, claim_blocks, claimed_in, is_hinted, version_of}
use Rattle.lv_refresh.specs.Inner.{AreClaims, CanServe, GivesNext, HintsWants, Passes, Picks, ServesNext, ServesNode, ServesNone, node_at, wants_at, wants_in}
use Rattle.lv_refresh.specs.Marks.{is_marked}
use Rattle.lv_refresh.proofs.PickLaws.{version_of-stamp, whole_of_wants, wants_in-outside}
use Rattle.lv_refresh.proofs.RowLaws.{AreClaims-same, claim_blocks-same, claimed_in-inside, claimed_in-outside, claimed_in-same, is_hinted-inside, rows_at}

module _ {S : Type 0} (t : Table S) (old new : ClaimTable) where
  -- if all six levels pass, no node wants a job
  pub ServesNone-by_levels : ((level : ℕ) → 1 ≤ level → level ≤ 6 → Passes t level (rows_at old level) (rows_at new level)) → ServesNone t old new
  ServesNone-by_levels passed =
      record {
        none = λ n. elim (cases_Bool (is_node n)) [
          | inl member ↦
              let level = level_of_node n member in
              ap (λ claimed. wants_in t claimed n) (claimed_in-inside old n member) ∙ (passed n.level level.0 level.1).none n.number
          | inr stranger ↦ wants_in-outside t _ n stranger
        ];
        claimed = claimed_in-same old new (λ level low high. (passed level low high).claimed);
        blocks = claim_blocks-same old new (λ level low high. ap length (passed level low high).claimed);
      }

  -- and claims are kept as they must be
  pub AreClaims-passed : AreClaims old → ((level : ℕ) → 1 ≤ level → level ≤ 6 → Passes t level (rows_at old level) (rows_at new level)) → AreClaims new
  AreClaims-passed claims passed =
      AreClaims-same old new claims (λ level low high. ap length (passed level low high).claimed) (λ level low high. (passed level low high).room)

-- before the last level, each passed
abbrev pub PassedBefore : {S : Type 0} → Table S → ClaimTable → ClaimTable → ℕ → Type 0
PassedBefore t old new level = level < 6 → Passes t level (rows_at old level) (rows_at new level)

-- all levels passed, if the last did too
last_passes : {S : Type 0} (t : Table S) (old new : ClaimTable) → ((level : ℕ) → 1 ≤ level → level ≤ 6 → PassedBefore t old new level) → Passes t 6 (rows_at old 6) (rows_at new 6) → (level : ℕ) → 1 ≤ level → level ≤ 6 → Passes t level (rows_at old level) (rows_at new level)
last_passes t old new before last level low high =
    elim (cases_lt level 6) [
      | inl earlier ↦ before level low high earlier
      | inr reached ↦ let is : level ≡ 6 = omega arith in subst (λ l. Passes t l (rows_at old l) (rows_at new l)) (sym is) last
    ]

-- what becomes of a level if a job was given on level k: those before pass, and those after stay
pub record Turn {S : Type 0} (t : Table S) (old new : ClaimTable) (job : Node × ℕ) (k level : ℕ) : Type 0 where
  pub passed : level < k → Passes t level (rows_at old level) (rows_at new level)
  pub served : level ≡ k → Picks t level (rows_at old level) (rows_at new level) job
  pub left : k < level → rows_at new level ≡ rows_at old level

module _ {S : Type 0} {t : Table S} {old new : ClaimTable} {job : Node × ℕ} {k level : ℕ} where
  -- a level before that of the job
  pub turn_passed : level < k → Passes t level (rows_at old level) (rows_at new level) → Turn t old new job k level
  turn_passed before passes = record { passed = λ _. passes; served = λ is. absurd (omega arith); left = λ after. absurd (omega arith) }

  -- the level of the job
  pub turn_served : level ≡ k → Picks t level (rows_at old level) (rows_at new level) job → Turn t old new job k level
  turn_served is serves = record { passed = λ before. absurd (omega arith); served = λ _. serves; left = λ after. absurd (omega arith) }

  -- a level after that of the job
  pub turn_left : k < level → rows_at new level ≡ rows_at old level → Turn t old new job k level
  turn_left after same = record { passed = λ before. absurd (omega arith); served = λ is. absurd (omega arith); left = λ _. same }

module _ {S : Type 0} (t : Table S) (old new : ClaimTable) (job : Node × ℕ) (k : ℕ) (turns : (level : ℕ) → 1 ≤ level → level ≤ 6 → Turn t old new job k level) where
  -- each level keeps its rows
  rows_stay : (level : ℕ) → 1 ≤ level → level ≤ 6 → length (rows_at new level).claimed ≡ length (rows_at old level).claimed
  rows_stay level low high =
      let turn = turns level low high in
      elim (cases_eq level k) [
        | inl is ↦ ap length (turn.served is).claimed ∙ length-set (rows_at old level).claimed job.0.number (job.1 + 1)
        | inr apart ↦ elim (cases_lt level k) [
          | inl before ↦ ap length (turn.passed before).claimed
          | inr after ↦ ap (λ rows. length rows.claimed) (turn.left (omega arith))
        ]
      ]

  -- and its room for hints
  hints_stay : (level : ℕ) → 1 ≤ level → level ≤ 6 → length (rows_at new level).hints ≡ length (rows_at old level).hints
  hints_stay level low high =
      let turn = turns level low high in
      elim (cases_eq level k) [
        | inl is ↦ (turn.served is).room
        | inr apart ↦ elim (cases_lt level k) [
          | inl before ↦ (turn.passed before).room
          | inr after ↦ ap (λ rows. length rows.hints) (turn.left (omega arith))
        ]
      ]

  -- claims are kept as they must be if a job was given
  pub AreClaims-served : AreClaims old → AreClaims new
  AreClaims-served claims = AreClaims-same old new claims rows_stay hints_stay

  -- every level other than the job's keeps its claims
  stamps_stay : (level : ℕ) → 1 ≤ level → level ≤ 6 → level ≢ k → (rows_at new level).claimed ≡ (rows_at old level).claimed
  stamps_stay level low high apart =
      let turn = turns level low high in
      elim (cases_lt level k) [
        | inl before ↦ (turn.passed before).claimed
        | inr after ↦ ap (λ rows. rows.claimed) (turn.left (omega arith))
      ]

  module _ (low : 1 ≤ k) (high : k ≤ 6) (at : job.0.level ≡ k) where
    -- what the level of the job says
    here : Picks t job.0.level (rows_at old job.0.level) (rows_at new job.0.level) job
    here = (turns job.0.level (omega arith) (omega arith)).served at

    -- the node of the job is one of the table
    member_here : is_node job.0 ≡ true
    member_here = (and_parts (is_node job.0) (is_below job.0 t.size) (whole_of_wants t _ job.0 here.wants)).0

    -- the claims after the job
    claimed_after : (n : Node) → claimed_in new n ≡ if same_node n job.0 then Some job.1 else claimed_in old n
    claimed_after n =
        elim (cases_Bool (is_node n)) [
          | inl member ↦
              let level = level_of_node n member in
              elim (cases_eq n.level job.0.level) [
                | inl is ↦
                    let now : (rows_at new n.level).claimed ≡ slice_set (rows_at old n.level).claimed job.0.number (job.1 + 1) = ((turns n.level level.0 level.1).served (is ∙ at)).claimed in
                    let inside = ((turns n.level level.0 level.1).served (is ∙ at)).inside in
                    claimed_in-inside new n member
                    ∙ ap (λ stamps. version_of (get_or stamps n.number 0)) now
                    ∙ elim (cases_eq n.number job.0.number) [
                      | inl same ↦
                          ap (λ j. version_of (get_or (slice_set (rows_at old n.level).claimed job.0.number (job.1 + 1)) j 0)) same
                          ∙ ap version_of (get_or-set_same (rows_at old n.level).claimed job.0.number (job.1 + 1) 0 inside)
                          ∙ version_of-stamp job.1
                          ∙ sym (cond-true (same_node n job.0) _ _ (and_from _ _ (eq-eqb n.level job.0.level is) (eq-eqb n.number job.0.number same)))
                      | inr other ↦
                          ap version_of (get_or-set_other (rows_at old n.level).claimed job.0.number n.number (job.1 + 1) 0 other)
                          ∙ sym (claimed_in-inside old n member)
                          ∙ sym (cond-false (same_node n job.0) _ _ (and_right _ _ (ne_eqb n.number job.0.number other)))
                    ]
                | inr apart ↦
                    claimed_in-inside new n member
                    ∙ ap (λ stamps. version_of (get_or stamps n.number 0)) (stamps_stay n.level level.0 level.1 (λ is. apart (is ∙ sym at)))
                    ∙ sym (claimed_in-inside old n member)
                    ∙ sym (cond-false (same_node n job.0) _ _ (and_left _ _ (ne_eqb n.level job.0.level apart)))
              ]
          | inr stranger ↦
              let apart : same_node n job.0 ≡ false = false_from_ne_true (same_node n job.0) (λ same. false≢true (sym stranger ∙ node_of_same n job.0 same member_here)) in
              claimed_in-outside new n stranger ∙ sym (claimed_in-outside old n stranger) ∙ sym (cond-false (same_node n job.0) _ _ apart)
        ]

    -- no node before that of the job wants one
    none_before : (n : Node) → Before n job.0 → wants_in t (claimed_in old n) n ≡ false
    none_before n before =
        elim (cases_Bool (is_node n)) [
          | inl member ↦
              let level = level_of_node n member in
              ap (λ claimed. wants_in t claimed n) (claimed_in-inside old n member)
              ∙ elim before [
                | inl below ↦ ((turns n.level level.0 level.1).passed (omega arith)).none n.number
                | inr there ↦ ((turns n.level level.0 level.1).served (there.0 ∙ at)).least n.number there.1
              ]
          | inr stranger ↦ wants_in-outside t _ n stranger
        ]

    -- each node that wants a job is still hinted at
    hints_after_job : ((n : Node) → wants_in t (claimed_in old n) n ≡ true → is_hinted old n ≡ true) → (n : Node) → wants_in t (claimed_in new n) n ≡ true → is_hinted new n ≡ true
    hints_after_job hints n wants =
        let member : is_node n ≡ true = (and_parts (is_node n) (is_below n t.size) (whole_of_wants t _ n wants)).0 in
        let level = level_of_node n member in
        let turn = turns n.level level.0 level.1 in
        let by_row : wants_at t n.level (rows_at new n.level) n.number ≡ true = ap (λ claimed. wants_in t claimed n) (sym (claimed_in-inside new n member)) ∙ wants in
        elim (cases_eq n.level k) [
          | inl is ↦ is_hinted-inside new n member ∙ (turn.served is).hints n.number by_row
          | inr apart ↦ elim (cases_lt n.level k) [
            | inl before ↦
                let passes = turn.passed before in
                absurd (false≢true (sym (passes.none n.number) ∙ ap (λ stamps. wants_in t (version_of (get_or stamps n.number 0)) n) (sym passes.claimed) ∙ by_row))
            | inr after ↦
                let same = turn.left (omega arith) in
                is_hinted-inside new n member
                ∙ ap (λ rows. is_marked rows.hints n.number) same
                ∙ sym (is_hinted-inside old n member)
                ∙ hints n (ap (λ claimed. wants_in t claimed n) (claimed_in-inside old n member) ∙ ap (λ rows. wants_at t n.level rows n.number) (sym same) ∙ by_row)
          ]
        ]

    -- a job that was given on a level, after all before it passed, is the next, by the table
    ServesNode-by_turns : ((n : Node) → wants_in t (claimed_in old n) n ≡ true → is_hinted old n ≡ true) → ServesNode t old new job
    ServesNode-by_turns hints =
        record {
          wants = ap (λ claimed. wants_in t claimed job.0) (claimed_in-inside old job.0 member_here) ∙ here.wants;
          version = here.version;
          before = none_before;
          claimed = claimed_after;
          hints = hints_after_job hints;
          blocks = claim_blocks-same old new rows_stay;
        }

module _ {S : Type 0} (t : Table S) (c : ClaimTable) where
  -- each level can be served if the nodes that want a job are hinted at
  pub CanServe-from : AreClaims c → HintsWants t c → t.size ≤ 8 * claim_blocks c → (level : ℕ) → 1 ≤ level → level ≤ 6 → CanServe t level (rows_at c level)
  CanServe-from claims hints grown level low high =
      record {
        low = low;
        high = high;
        hints = λ k wants.
            let n = node_at level k in
            let member = node_of_level n low high in
            sym (is_hinted-inside c n member) ∙ hints n (ap (λ claimed. wants_in t claimed n) (claimed_in-inside c n member) ∙ wants);
        rows_enough = omega (arith, (claims.levels level low high).covers);
      }

module _ {S : Type 0} (t : Table S) (old new : ClaimTable) where
  -- a job that was given on a level, after all before it passed, is the next
  pub ServesNode-at : (job : Node × ℕ) (k : ℕ) → ((level : ℕ) → 1 ≤ level → level ≤ 6 → Turn t old new job k level) → 1 ≤ k → k ≤ 6 → job.0.level ≡ k → HintsWants t old → ServesNode t old new job
  ServesNode-at job k turns low high at hints =
      ServesNode-by_turns t old new job k turns low high at hints

  -- the turns of all levels, if the job was given on the last
  last_turns : (job : Node × ℕ) → ((level : ℕ) → 1 ≤ level → level ≤ 6 → PassedBefore t old new level) → Picks t 6 (rows_at old 6) (rows_at new 6) job → (level : ℕ) → 1 ≤ level → level ≤ 6 → Turn t old new job 6 level
  last_turns job before last level low high =
      elim (cases_lt level 6) [
        | inl earlier ↦ turn_passed earlier (before level low high earlier)
        | inr reached ↦ let is : level ≡ 6 = omega arith in subst (λ l. Turn t old new job 6 l) (sym is) (turn_served refl last)
      ]

  -- what comes of the last level comes of all
  pub ServesNext-last : (result : Option (Node × ℕ)) → ((level : ℕ) → 1 ≤ level → level ≤ 6 → PassedBefore t old new level) → GivesNext t 6 (rows_at old 6) (rows_at new 6) result → HintsWants t old → ServesNext t old new result
  ServesNext-last None before last hints = ServesNone-by_levels t old new (last_passes t old new before last)
  ServesNext-last (Some job) before last hints = ServesNode-at job 6 (last_turns job before last) (omega arith) (omega arith) last.level_is hints

  -- and claims are kept as they must be
  pub AreClaims-last : (result : Option (Node × ℕ)) → ((level : ℕ) → 1 ≤ level → level ≤ 6 → PassedBefore t old new level) → GivesNext t 6 (rows_at old 6) (rows_at new 6) result → AreClaims old → AreClaims new
  AreClaims-last None before last claims = AreClaims-passed t old new claims (last_passes t old new before last)
  AreClaims-last (Some job) before last claims = AreClaims-served t old new job 6 (last_turns job before last) claims
