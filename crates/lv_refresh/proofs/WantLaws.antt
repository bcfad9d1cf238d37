-- Which nodes may begin to want a job: the blocks that an edit touched, the parent of one whose summary was installed, and any
-- whole node when claims are forgotten.
use Rattle.std.proofs.Common.{◌≡◌, ◌⊎◌, ℕ, ◌+◌, ◌-◌, ◌*◌, ◌/◌, ◌<◌, ◌^◌, ◌≤◌, Bool, true, false, ◌&&◌, ◌||◌, not, Option, None, Some, List, [], ◌∷◌, ◌++◌, length, nat_eq, if◌then◌else◌, refl, sym, ap, ◌∙◌, inl, inr, arith}
use Rattle.std.specs.Prelude.{ℤ}
use Rattle.std.specs.List.{list_any}
use Rattle.std.proofs.Math.Nat.{div-div-eq-div-mul, mul_comm}
use Rattle.std.proofs.lemmas.Bool.{and_from, and_parts, and_right, cases_Bool, cond-false, cond-true, eq-eqb, eqb-false, eqb-true, leb-true, ne_eqb, not-true, or_cases, or_left, or_right, true≢false}
use Rattle.lv_geometry.specs.declared.nodes.Node.{Node}
use Rattle.lv_geometry.specs.Nodes.{child, covers, is_node, parent, same_node}
use Rattle.lv_edits.specs.declared.edit.Edit.{Edit}
use Rattle.lv_edits.specs.History.{applied, list_of, replayed}
use Rattle.lv_edits.specs.Touch.{indices_written, is_whole, touched_by, touches}
use Rattle.lv_edits.proofs.TouchLaws.{touched_by-snoc, touches_parent, untouched_keeps}
use Rattle.lv_summary.proofs.TableLaws.{same_node-eq, same_node-self}
use Rattle.lv_refresh.proofs.HonestyLaws.{child_width, children_fresh_from, each_child_fresh}
use Rattle.lv_refresh.specs.Claim.{children_fresh, wants_job}
use Rattle.lv_refresh.specs.Record.{Record, SameRecord, is_fresh, is_version}

-- the parts of a want
pub record Wants (r : Record) (n : Node) : Type 0 where
  pub whole : is_whole r.edits n ≡ true
  pub stale : is_fresh r n ≡ false
  pub unclaimed : is_version (touched_by r.edits n) (r.claimed n) ≡ false
  pub children : nat_eq n.level 1 || children_fresh r n ≡ true

-- a node that wants a job has the parts of a want
pub wants_parts : (r : Record) (n : Node) → wants_job r n ≡ true → Wants r n
wants_parts r n wants =
    let first = and_parts (is_whole r.edits n && not (is_fresh r n) && not (is_version (touched_by r.edits n) (r.claimed n))) (nat_eq n.level 1 || children_fresh r n) wants in
    let second = and_parts (is_whole r.edits n && not (is_fresh r n)) (not (is_version (touched_by r.edits n) (r.claimed n))) first.0 in
    let third = and_parts (is_whole r.edits n) (not (is_fresh r n)) second.0 in
    record { whole = third.0; stale = not-true _ third.1; unclaimed = not-true _ second.1; children = first.1 }

-- a node with the parts of a want wants a job
pub wants_from : (r : Record) (n : Node) → Wants r n → wants_job r n ≡ true
wants_from r n w =
    and_from _ _ (and_from _ _ (and_from _ _ w.whole (ap not w.stale)) (ap not w.unclaimed)) w.children

-- records that say the same of a node have it as fresh
pub is_fresh-same : (r next : Record) (n : Node) → is_whole next.edits n ≡ is_whole r.edits n → touched_by next.edits n ≡ touched_by r.edits n → next.kept n ≡ r.kept n → is_fresh next n ≡ is_fresh r n
is_fresh-same r next n whole touched kept =
    ap (λ w. w && is_version (touched_by next.edits n) (next.kept n)) whole
    ∙ ap (λ v. is_whole r.edits n && is_version v (next.kept n)) touched
    ∙ ap (λ k. is_whole r.edits n && is_version (touched_by r.edits n) k) kept

-- the children of a node are fresh in one record if each that is fresh in another is
pub children_fresh-mono : (r next : Record) (n : Node) → ((k : ℕ) → k < 8 → is_fresh r (child n k) ≡ true → is_fresh next (child n k) ≡ true) → children_fresh r n ≡ true → children_fresh next n ≡ true
children_fresh-mono r next n each all = children_fresh_from next n (λ k small. each k small (each_child_fresh r n all k small))

-- a choice stays made if its second part only gains
or_mono : (a b c : Bool) → (b ≡ true → c ≡ true) → a || b ≡ true → a || c ≡ true
or_mono true b c more one = or_left true c refl
or_mono false b c more one = more one

-- an edit that touches no index of a node touches none of its children
untouched_child : (xs : List ℤ) (e : Edit) (n : Node) (k : ℕ) → 1 < n.level → k < 8 → touches xs e n ≡ false → touches xs e (child n k) ≡ false
untouched_child xs e n k high small untouched =
    elim (cases_Bool (touches xs e (child n k))) [
      | inl touched ↦ absurd (true≢false (sym (touches_parent xs e (child n k) n (omega arith) (omega arith) touched) ∙ untouched))
      | inr apart ↦ apart
    ]

-- a node above the first level
above_first : (n : Node) → is_node n ≡ true → nat_eq n.level 1 ≡ false → 1 < n.level
above_first n node high = omega (arith, leb-true 1 n.level (and_parts _ _ node).0, eqb-false n.level 1 high)

module _ (r next : Record) (e : Edit) (ys : List ℤ) (legal : replayed r.edits ≡ Some (list_of r.edits)) (possible : applied (list_of r.edits) e ≡ Some ys) (same : SameRecord (record r { edits = r.edits ++ e ∷ [] }) next) where
  -- a node that an edit didn't touch, and that is whole after it, was whole before
  whole_before : (n : Node) → touches (list_of r.edits) e n ≡ false → is_whole next.edits n ≡ true → is_whole r.edits n ≡ true
  whole_before n untouched whole =
      (untouched_keeps r.edits e ys n legal possible untouched (ap (λ edits. is_whole edits n) (sym same.edits) ∙ whole)).0

  -- and was touched by the same edit last
  touched_before : (n : Node) → touches (list_of r.edits) e n ≡ false → touched_by next.edits n ≡ touched_by r.edits n
  touched_before n untouched = ap (λ edits. touched_by edits n) same.edits ∙ touched_by-snoc r.edits e n ∙ cond-false _ _ _ untouched

  -- such a node is as fresh as before
  fresh_before : (n : Node) → touches (list_of r.edits) e n ≡ false → is_whole next.edits n ≡ true → is_fresh next n ≡ is_fresh r n
  fresh_before n untouched whole =
      is_fresh-same r next n (whole ∙ sym (whole_before n untouched whole)) (touched_before n untouched) (same.kept n)

  -- a node that an edit didn't touch, and that wants a job after it, wanted one before
  pub wants_before_edit : (n : Node) → touches (list_of r.edits) e n ≡ false → wants_job next n ≡ true → wants_job r n ≡ true
  wants_before_edit n untouched wants =
      let w = wants_parts next n wants in
      wants_from r n record {
        whole = whole_before n untouched w.whole;
        stale = sym (fresh_before n untouched w.whole) ∙ w.stale;
        unclaimed = ap (λ v. is_version v (r.claimed n)) (sym (touched_before n untouched)) ∙ ap (is_version (touched_by next.edits n)) (sym (same.claimed n)) ∙ w.unclaimed;
        children = elim (cases_Bool (nat_eq n.level 1)) [
          | inl low ↦ or_left _ _ low
          | inr high ↦
              let node = above_first n (and_parts _ _ w.whole).0 high in
              or_mono (nat_eq n.level 1) (children_fresh next n) (children_fresh r n) (children_fresh-mono next r n (λ k small fresh.
              let apart = untouched_child (list_of r.edits) e n k node small untouched in
              sym (fresh_before (child n k) apart (and_parts _ _ fresh).0) ∙ fresh)) w.children
        ];
      }

-- the child of a node that has one of its indices
child_over : (n : Node) (i : ℕ) → 1 < n.level → covers n i ≡ true → (k : ℕ) × (k < 8) × (covers (child n k) i ≡ true)
child_over n i above covered =
    let width = 8 ^ (n.level - 1) in
    let wide : 8 ^ n.level ≡ width * 8 = child_width n above ∙ mul_comm 8 width in
    let eighth : i / width / 8 ≡ n.number = div-div-eq-div-mul i width 8 ∙ ap (λ w. i / w) (sym wide) ∙ eqb-true _ _ covered in
    let k = i / width - 8 * n.number in
    (k, omega arith, eq-eqb (i / width) (8 * n.number + k) (omega arith))

-- some child of a node has one of some indices if the node has one
some_child_covers : (n : Node) (indices : List ℕ) → 1 < n.level → list_any (covers n) indices ≡ true → (k : ℕ) × (k < 8) × (list_any (covers (child n k)) indices ≡ true)
some_child_covers n [] above covered = absurd (true≢false (sym covered))
some_child_covers n (i ∷ rest) above covered =
    elim (or_cases (covers n i) (list_any (covers n) rest) covered) [
      | inl here ↦
          let at = child_over n i above here in
          (at.0, at.1, or_left _ _ at.2)
      | inr later ↦
          let at = some_child_covers n rest above later in
          (at.0, at.1, or_right _ _ at.2)
    ]

-- what is kept is not of the edit to come, if it is of none later than the last
not_of_next : (kept : Option ℕ) (last : ℕ) → ((v : ℕ) → kept ≡ Some v → v ≤ last) → is_version (last + 1) kept ≡ false
not_of_next None last past = refl
not_of_next (Some v) last past = ne_eqb v (last + 1) (λ same. omega (arith, past v refl, same))

module _ (r next : Record) (e : Edit) (past : (m : Node) (v : ℕ) → r.kept m ≡ Some v → v ≤ length r.edits) (same : SameRecord (record r { edits = r.edits ++ e ∷ [] }) next) where
  -- a node that an edit touched is not fresh after it
  stale_after_edit : (n : Node) → touches (list_of r.edits) e n ≡ true → is_fresh next n ≡ false
  stale_after_edit n touched =
      let now : touched_by next.edits n ≡ length r.edits + 1 = ap (λ edits. touched_by edits n) same.edits ∙ touched_by-snoc r.edits e n ∙ cond-true _ _ _ touched in
      and_right _ _ (ap (λ v. is_version v (next.kept n)) now ∙ ap (is_version (length r.edits + 1)) (same.kept n) ∙ not_of_next (r.kept n) (length r.edits) (past n))

  -- so a node above the first level that it touched wants no job, since it touched one of the node's children
  pub calm_after_edit : (n : Node) → 1 < n.level → touches (list_of r.edits) e n ≡ true → wants_job next n ≡ true → ⊥
  calm_after_edit n above touched wants =
      let at = some_child_covers n (indices_written (list_of r.edits) e) above touched in
      let high : nat_eq n.level 1 ≡ false = ne_eqb n.level 1 (λ low. omega (arith, low, above)) in
      let all : children_fresh next n ≡ true = ap (λ low. low || children_fresh next n) (sym high) ∙ (wants_parts next n wants).children in
      true≢false (sym (each_child_fresh next n all at.0 at.1) ∙ stale_after_edit (child n at.0) at.2)

-- a node that isn't another's parent has not the other as a child
child_besides : (n m : Node) (k : ℕ) → 1 < n.level → k < 8 → same_node n (parent m) ≡ false → same_node (child n k) m ≡ false
child_besides n m k high small apart =
    elim (cases_Bool (same_node (child n k) m)) [
      | inl same ↦
          let parts = and_parts _ _ same in
          let level : n.level - 1 ≡ m.level = eqb-true _ _ parts.0 in
          let number : 8 * n.number + k ≡ m.number = eqb-true _ _ parts.1 in
          let above : same_node n (parent m) ≡ true = and_from _ _ (eq-eqb n.level (m.level + 1) (omega arith)) (eq-eqb n.number (m.number / 8) (omega arith)) in
          absurd (true≢false (sym above ∙ apart))
      | inr other ↦ other
    ]

module _ (r next : Record) (m : Node) (v : ℕ) (edits : next.edits ≡ r.edits) (claimed : (n : Node) → next.claimed n ≡ r.claimed n) (kept : (n : Node) → next.kept n ≡ (if same_node n m then Some v else r.kept n)) where
  -- a node other than that of an installed summary is as fresh as before
  fresh_besides : (n : Node) → same_node n m ≡ false → is_fresh next n ≡ is_fresh r n
  fresh_besides n other =
      is_fresh-same r next n (ap (λ edits. is_whole edits n) edits) (ap (λ edits. touched_by edits n) edits) (kept n ∙ cond-false _ _ _ other)

  -- a node whose summary was installed at its touched number wants no job
  installed_is_fresh : is_whole r.edits m ≡ true → touched_by r.edits m ≡ v → is_fresh next m ≡ true
  installed_is_fresh whole touched =
      and_from (is_whole next.edits m) (is_version (touched_by next.edits m) (next.kept m)) (ap (λ edits. is_whole edits m) edits ∙ whole)
      (ap (is_version (touched_by next.edits m)) (kept m ∙ cond-true _ _ _ (same_node-self m)) ∙ eq-eqb v (touched_by next.edits m) (sym touched ∙ sym (ap (λ edits. touched_by edits m) edits)))

  -- once a summary is installed at its node's touched number, only the node's parent may begin to want a job
  pub wants_before_install : is_whole r.edits m ≡ true → touched_by r.edits m ≡ v → (n : Node) → wants_job next n ≡ true → (wants_job r n ≡ true) ⊎ (same_node n (parent m) ≡ true)
  wants_before_install whole touched n wants =
      let w = wants_parts next n wants in
      let other : same_node n m ≡ false = elim (cases_Bool (same_node n m)) [
        | inl same ↦ absurd (true≢false (sym (installed_is_fresh whole touched) ∙ ap (is_fresh next) (sym (same_node-eq n m same)) ∙ w.stale))
        | inr other ↦ other
      ] in
      elim (cases_Bool (same_node n (parent m))) [
        | inl above ↦ inr above
        | inr apart ↦ inl (wants_from r n record {
          whole = ap (λ edits. is_whole edits n) (sym edits) ∙ w.whole;
          stale = sym (fresh_besides n other) ∙ w.stale;
          unclaimed = ap (is_version (touched_by r.edits n)) (sym (claimed n)) ∙ ap (λ edits. is_version (touched_by edits n) (next.claimed n)) (sym edits) ∙ w.unclaimed;
          children = elim (cases_Bool (nat_eq n.level 1)) [
            | inl low ↦ or_left _ _ low
            | inr high ↦
                let node = above_first n (and_parts _ _ w.whole).0 high in
                or_mono (nat_eq n.level 1) (children_fresh next n) (children_fresh r n)
                (children_fresh-mono next r n (λ k small fresh. sym (fresh_besides (child n k) (child_besides n m k node small apart)) ∙ fresh)) w.children
          ];
        })
      ]

-- a want moves between records that say the same
want_moves : (r next : Record) → SameRecord r next → (n : Node) → wants_job r n ≡ true → wants_job next n ≡ true
want_moves r next same n wants =
    let w = wants_parts r n wants in
    let fresh : (m : Node) → is_fresh next m ≡ is_fresh r m = λ m. is_fresh-same r next m (ap (λ edits. is_whole edits m) same.edits) (ap (λ edits. touched_by edits m) same.edits) (same.kept m) in
    wants_from next n record {
      whole = ap (λ edits. is_whole edits n) same.edits ∙ w.whole;
      stale = fresh n ∙ w.stale;
      unclaimed = ap (is_version (touched_by next.edits n)) (same.claimed n) ∙ ap (λ edits. is_version (touched_by edits n) (r.claimed n)) same.edits ∙ w.unclaimed;
      children = or_mono (nat_eq n.level 1) (children_fresh r n) (children_fresh next n) (children_fresh-mono r next n (λ k small is. fresh (child n k) ∙ is)) w.children;
    }

-- records that say the same, the other way round
pub SameRecord-back : (r next : Record) → SameRecord r next → SameRecord next r
SameRecord-back r next same =
    record { edits = sym same.edits; issued = sym same.issued; claimed = λ n. sym (same.claimed n); kept = λ n. sym (same.kept n) }

-- truth values are one if each gives the other
one_truth : (a b : Bool) → (a ≡ true → b ≡ true) → (b ≡ true → a ≡ true) → a ≡ b
one_truth true b there back = sym (there refl)
one_truth false true there back = back refl
one_truth false false there back = refl

-- records that say the same have the same wants
pub wants_job-same : (r next : Record) → SameRecord r next → (n : Node) → wants_job next n ≡ wants_job r n
wants_job-same r next same n = one_truth _ _ (want_moves next r (SameRecord-back r next same) n) (want_moves r next same n)
