-- Which job comes next on one level.
use Rattle.std.proofs.Common.{◌≡◌, ◌≢◌, ℕ, ◌+◌, ◌-◌, ◌*◌, ◌^◌, ◌<◌, ◌≤◌, true, false, ◌&&◌, ◌||◌, not, Option, Some, length, get_or, nat_eq, nat_lt, slice_set, refl, sym, ap, ◌∙◌, inl, inr, arith}
use Rattle.std.proofs.lemmas.Bool.{and_from, and_left, and_parts, and_right, cases_Bool, cases_eq, cond-true, eq-eqb, false_from_ne_true, false≢true, lt-ltb, ne_eqb, true≢false}
use Rattle.std.proofs.lemmas.List.{get_or-set_other, get_or-set_same}
use Rattle.lv_geometry.specs.declared.nodes.Node.{Node}
use Rattle.lv_geometry.specs.Nodes.{is_below, is_node}
use Rattle.lv_summary.specs.Table.{Table, fresh_in, touched_in, whole_in}
use Rattle.lv_refresh.specs.ClaimTable.{ClaimRows, version_of}
use Rattle.lv_refresh.specs.Inner.{IsFirstHint, Passes, Picks, UnhintsAt, children_fresh_in, node_at, wants_at, wants_in, with_claim}
use Rattle.lv_refresh.specs.Marks.{is_marked}
use Rattle.lv_refresh.specs.Record.{is_version}
use Rattle.lv_refresh.proofs.RowLaws.{row_of_node}

-- a node that wants a job is whole
pub whole_of_wants : {S : Type 0} (t : Table S) (claimed : Option ℕ) (n : Node) → wants_in t claimed n ≡ true → whole_in t n ≡ true
whole_of_wants t claimed n wants =
    let first = and_parts (whole_in t n && not (fresh_in t n) && not (is_version (touched_in t n) claimed)) (nat_eq n.level 1 || children_fresh_in t n) wants in
    let second = and_parts (whole_in t n && not (fresh_in t n)) (not (is_version (touched_in t n) claimed)) first.0 in
    (and_parts (whole_in t n) (not (fresh_in t n)) second.0).0

-- and has its row, if the rows of its level are enough for the size
pub row_of_wanted : {S : Type 0} (t : Table S) (claimed : Option ℕ) (level number : ℕ) (rows : ClaimRows) → wants_in t claimed (node_at level number) ≡ true → t.size ≤ length rows.claimed * 8 ^ level → number < length rows.claimed
row_of_wanted t claimed level number rows wants enough =
    let n = node_at level number in
    row_of_node rows n t.size (and_parts (is_node n) (is_below n t.size) (whole_of_wants t claimed n wants)).1 enough

-- no node outside the table wants a job
pub wants_in-outside : {S : Type 0} (t : Table S) (claimed : Option ℕ) (n : Node) → is_node n ≡ false → wants_in t claimed n ≡ false
wants_in-outside t claimed n stranger =
    elim (cases_Bool (wants_in t claimed n)) [
      | inl wants ↦ absurd (false≢true (sym stranger ∙ (and_parts (is_node n) (is_below n t.size) (whole_of_wants t claimed n wants)).0))
      | inr calm ↦ calm
    ]

-- a node wants no job at the version at which it is claimed
pub wants_in-claimed : {S : Type 0} (t : Table S) (version : ℕ) (n : Node) → version ≡ touched_in t n → wants_in t (Some version) n ≡ false
wants_in-claimed t version n is =
    let claimed : not (is_version (touched_in t n) (Some version)) ≡ false = ap not (eq-eqb version (touched_in t n) is) in
    and_left _ (nat_eq n.level 1 || children_fresh_in t n) (and_right (whole_in t n && not (fresh_in t n)) _ claimed)

-- a stamp gives its version
pub version_of-stamp : (version : ℕ) → version_of (version + 1) ≡ Some version
version_of-stamp version =
    let back : version + 1 - 1 ≡ version = omega arith in
    cond-true (nat_lt 0 (version + 1)) _ _ (lt-ltb 0 (version + 1) (omega arith)) ∙ ap Some back

module _ {S : Type 0} (t : Table S) (level : ℕ) where
  -- the nodes of a level want jobs by their stamps
  wants_at-same : (rows next : ClaimRows) (k : ℕ) → get_or next.claimed k 0 ≡ get_or rows.claimed k 0 → wants_at t level next k ≡ wants_at t level rows k
  wants_at-same rows next k same = ap (λ stamp. wants_in t (version_of stamp) (node_at level k)) same

  -- a mark that is taken away from another number leaves this one's
  marked_still : (seen unhinted : ClaimRows) (number k : ℕ) → UnhintsAt seen unhinted number → k ≢ number → is_marked seen.hints k ≡ true → is_marked unhinted.hints k ≡ true
  marked_still seen unhinted number k away other marked =
      away.hints k ∙ and_from _ _ (ap not (ne_eqb k number other)) marked

  -- a hint that is taken away at a node that wants no job is not missed
  pub hints_after : (seen unhinted : ClaimRows) (number : ℕ) → UnhintsAt seen unhinted number → ((k : ℕ) → wants_at t level seen k ≡ true → is_marked seen.hints k ≡ true) → wants_at t level unhinted number ≡ false → (k : ℕ) → wants_at t level unhinted k ≡ true → is_marked unhinted.hints k ≡ true
  hints_after seen unhinted number away hints calm k wants =
      elim (cases_eq k number) [
        | inl same ↦ absurd (false≢true (sym calm ∙ ap (wants_at t level unhinted) (sym same) ∙ wants))
        | inr other ↦ marked_still seen unhinted number k away other (hints k (sym (wants_at-same seen unhinted k (ap (λ stamps. get_or stamps k 0) away.claimed)) ∙ wants))
      ]

  -- if no node is hinted at, none wants a job
  pub Passes-from : (old seen : ClaimRows) → seen.claimed ≡ old.claimed → length seen.hints ≡ length old.hints → ((k : ℕ) → wants_at t level seen k ≡ true → is_marked seen.hints k ≡ true) → ((k : ℕ) → is_marked seen.hints k ≡ false) → Passes t level old seen
  Passes-from old seen claimed room hints none =
      record {
        none = λ k. sym (wants_at-same old seen k (ap (λ stamps. get_or stamps k 0) claimed)) ∙ false_from_ne_true (wants_at t level seen k) (λ wants. true≢false (sym (hints k wants) ∙ none k));
        claimed = claimed;
        room = room;
      }

  -- the least node that is hinted at is picked if it wants a job
  pub Picks-from : (old seen unhinted new : ClaimRows) (number version : ℕ) → seen.claimed ≡ old.claimed → length seen.hints ≡ length old.hints → ((k : ℕ) → wants_at t level seen k ≡ true → is_marked seen.hints k ≡ true) → IsFirstHint seen number → UnhintsAt seen unhinted number → new ≡ with_claim unhinted number version → number < length old.claimed → wants_at t level unhinted number ≡ true → version ≡ touched_in t (node_at level number) → Picks t level old new (node_at level number, version)
  Picks-from old seen unhinted new number version claimed room hints first away made inside wants is =
      let stamps : unhinted.claimed ≡ old.claimed = away.claimed ∙ claimed in
      let now : new.claimed ≡ slice_set old.claimed number (version + 1) = ap (λ rows. rows.claimed) made ∙ ap (λ stamps. slice_set stamps number (version + 1)) stamps in
      record {
        level_is = refl;
        wants = sym (wants_at-same old unhinted number (ap (λ stamps. get_or stamps number 0) stamps)) ∙ wants;
        least = λ k before. sym (wants_at-same old seen k (ap (λ stamps. get_or stamps k 0) claimed)) ∙ false_from_ne_true (wants_at t level seen k) (λ wants. true≢false (sym (hints k wants) ∙ first.least k before));
        version = is;
        claimed = now;
        inside = inside;
        hints = λ k still. elim (cases_eq k number) [
          | inl same ↦
              let stamp : get_or new.claimed number 0 ≡ version + 1 = ap (λ stamps. get_or stamps number 0) now ∙ get_or-set_same old.claimed number (version + 1) 0 inside in
              let calm : wants_at t level new number ≡ false = ap (λ stamp. wants_in t (version_of stamp) (node_at level number)) stamp ∙ ap (λ claimed. wants_in t claimed (node_at level number)) (version_of-stamp version) ∙ wants_in-claimed t version (node_at level number) is in
              absurd (false≢true (sym calm ∙ ap (wants_at t level new) (sym same) ∙ still))
          | inr other ↦
              let stamp : get_or new.claimed k 0 ≡ get_or seen.claimed k 0 = ap (λ stamps. get_or stamps k 0) now ∙ get_or-set_other old.claimed number k (version + 1) 0 other ∙ ap (λ stamps. get_or stamps k 0) (sym claimed) in
              ap (λ rows. is_marked rows.hints k) made ∙ marked_still seen unhinted number k away other (hints k (sym (wants_at-same seen new k stamp) ∙ still))
        ];
        room = ap (λ rows. length rows.hints) made ∙ away.room ∙ room;
      }
